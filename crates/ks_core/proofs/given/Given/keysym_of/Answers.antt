use Rattle.std.proofs.Common.{sym, ap, ◌∙◌}
use Rattle.std.specs.Str.{bytes_eq}
use Rattle.ks_core.specs.Entry.{keysym_in}
use Rattle.ks_core.proofs.GivenLemmas.{lookup-entries_in}
use Rattle.ks_core.proofs.given.Given.keysym_of.Goals as goal

pub returns : goal.returns
returns c =
    c.copied.ensures ∙ c.value_of_text.ensures ∙ sym (lookup-entries_in (bytes_eq c.args.name.now) c.self.inside.keysyms.entries) ∙ ap (λ es. keysym_in es c.args.name.now) c.self.view_is
