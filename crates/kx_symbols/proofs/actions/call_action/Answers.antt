use Rattle.std.proofs.Common.{ap, ◌∙◌}
use Rattle.kx_actions.specs.Arguments.{action_of}
use Rattle.kx_symbols.specs.Actions.{call_action, defined}
use Rattle.kx_symbols.specs.Known.{Known}
use Rattle.kx_symbols.proofs.actions.call_action.Goals as goal

pub returns-clause-value : goal.returns-clause-value
returns-clause-value c =
    c.defined.ensures
    ∙ ap defined (c.in_ok-action.ensures.value ∙ ap (λ d. action_of c.known.inside.modifiers.now.names d c.args.call.now) c.actions.ensures)
    ∙ ap (λ (k : Known). call_action k c.args.call.now) c.known.view_is
