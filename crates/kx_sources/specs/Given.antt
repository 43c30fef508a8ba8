-- A source with the files that its includes reach.
use Rattle.std.specs.Prelude.{ℕ, List}
use Rattle.kx_include.specs.Source.{Handed}

pub record Given : Type 0 where
  pub text : List ℕ
  pub files : Handed
