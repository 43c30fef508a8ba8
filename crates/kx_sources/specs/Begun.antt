-- What a source is made of.
use Rattle.std.specs.Prelude.{ℕ, List, Option, None, Some}
use Rattle.kx_sources.specs.declared.gathering.Start.{Start}
use Rattle.kx_sources.specs.declared.gathering.Start.TheVariants.{Names, Text}

-- its text, where it isn't made of names
abbrev pub text_begun : Start → Option (List ℕ)
text_begun (Text text) = Some text.items
text_begun (Names names) = None
