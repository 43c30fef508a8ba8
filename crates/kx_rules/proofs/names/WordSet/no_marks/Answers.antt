use Rattle.std.proofs.Common.{ap, false, map, ◌∙◌}
use Rattle.kx_rules.proofs.Marking.{none_mapped}
use Rattle.kx_rules.proofs.names.WordSet.no_marks.Goals as goal

pub returns : goal.returns
returns c = c.in_ok-marks.ensures ∙ ap (map (λ _. false)) c.as_slice.ensures.value ∙ none_mapped (λ e. e.0) c.self.inside.words.entries ∙ ap (map (λ _. false)) c.self.view_is
