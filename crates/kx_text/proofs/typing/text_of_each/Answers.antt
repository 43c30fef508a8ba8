use Rattle.std.proofs.Common.{sym, ◌∙◌, arith}
use Rattle.kx_text.proofs.Encoding.{encode-most}
use Rattle.kx_text.proofs.Joined.{at_end, at_start, none_at, one_more}
use Rattle.kx_text.proofs.typing.text_of_each.Goals as goal

pub push-requires : goal.push-requires
push-requires c =
    let most = encode-most c.in-Some.character in
    let few = c.loop-keysym.invariant.few in
    omega (arith, few, most)

pub loop-keysym-init : goal.loop-keysym-init
loop-keysym-init c = at_start c.args.keysyms.now c.new-text.result.bytes c.new-text.ensures

pub loop-keysym-preserved : goal.loop-keysym-preserved
loop-keysym-preserved c =
    one_more c.args.keysyms.now c.loop-keysym.text.bytes c.push.new.self.bytes c.loop-keysym.keysym-index c.in-Some.character c.loop-keysym.invariant (omega arith) (sym c.in-Some.ensures) c.push.ensures.bytes

pub returns-in-None : goal.returns-in-None
returns-in-None c =
    c.new.ensures ∙ sym (none_at c.args.keysyms.now c.loop-keysym.text.bytes c.loop-keysym.keysym-index c.loop-keysym.invariant (omega arith) (sym c.in-None.ensures))

pub returns : goal.returns
returns c = sym (at_end c.args.keysyms.now c.loop-keysym.text.bytes c.loop-keysym.keysym-index c.loop-keysym.invariant (omega arith))
