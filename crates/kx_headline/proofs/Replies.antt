-- What a source's keyboard answers is one thing.
use Rattle.std.proofs.Common.{ℕ, ◌≡◌, List, sym, ◌∙◌, ap}
use Rattle.ks_core.specs.Table.{KeysymTable}
use Rattle.kx_headline.specs.Played.{AnswersAs}
use Rattle.kx_headline.proofs.Texts.{Laws, library-one}
use Rattle.kx_include.specs.Source.{Handed}
use Rattle.kx_run.specs.Replies.{Answer, run}
use Rattle.kx_run.specs.World.{opening}
use Rattle.kx_run.specs.declared.direction.Event.{Event}
use Rattle.kx_source.specs.Meaning.{keymap_in}

module _ (names : KeysymTable) where
  pub answers-one : Laws → (source : List ℕ) (files : Handed) (events : List Event) (one other : List Answer) → AnswersAs source files names events one → AnswersAs source files names events other → one ≡ other
  answers-one laws source files events one other a b =
      let same : a.compiled.library ≡ b.compiled.library = library-one laws source files a.compiled.library b.compiled.library a.compiled.read b.compiled.read in
      a.answers_are ∙ a.compiled.runs opening events ∙ ap (λ library. run (keymap_in names library) opening events) same ∙ sym (b.compiled.runs opening events) ∙ sym b.answers_are
