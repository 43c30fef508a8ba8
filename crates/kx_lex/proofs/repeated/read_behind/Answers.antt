use Rattle.std.proofs.Common.{rules}
use Rattle.std.proofs.lemmas.Result.{err_from_is_err_and}
use Rattle.kx_lex.proofs.Rounds.{SoFar-none, SoFar-more, SoFar-last, SoFar-blamed}
use Rattle.kx_lex.proofs.repeated.read_behind.Goals as goal

pub items-init : goal.items-init
items-init g c = SoFar-none (g.R.Repeated.test c.args.text.now) (g.R.Repeated.reading c.args.text.now) c.args.start.items c.args.tokens.now

pub returns-in_err-item : goal.returns-in_err-item
returns-in_err-item g c =
    let p = err_from_is_err_and c.from_residual.result c.from_residual.ensures.1 in
    rw (p.1, p.2)
    (SoFar-blamed (g.R.Repeated.test c.args.text.now) (g.R.Repeated.reading c.args.text.now) c.args.start.items c.args.tokens.now c.items.rest.now c.items.items.items _ c.items.invariant (search rules) c.in_err-item.ensures.read)

pub items-preserved : goal.items-preserved
items-preserved g c =
    rw c.in_ok-push.ensures.items
    (SoFar-more (g.R.Repeated.test c.args.text.now) (g.R.Repeated.reading c.args.text.now) c.args.start.items c.args.tokens.now c.items.rest.now c.items.items.items c.in_ok-item.item c.in_ok-item.left.now c.items.invariant (search rules) c.in_ok-item.ensures.read c.in_ok-item.ensures.shorter)

pub returns : goal.returns
returns g c = rw c.of.ensures (SoFar-last (g.R.Repeated.test c.args.text.now) (g.R.Repeated.reading c.args.text.now) c.args.start.items c.args.tokens.now c.items.rest.now c.items.items.items c.items.invariant (search rules))
