use Rattle.std.proofs.Common.{◌≡◌, ◌||◌, [], ap, sym, ◌∙◌, arith}
use Rattle.kx_keys.proofs.VmodmapShown.{unnamed_brings}
use Rattle.kx_resolve.specs.MappedKeys.{is_brought}
use Rattle.kx_keys.specs.Vmodmap.{ReadKeymap, brings}
use Rattle.kx_resolve.specs.NamedKeys.{name_in}
use Rattle.kx_resolve.specs.Read.{keymap_read}
use Rattle.kx_codes.proofs.Ends.{all_gathered}
use Rattle.kx_virtual_mods.specs.Sets.{any_below}
use Rattle.kx_keys.proofs.Acting.{any_next, any_none}
use Rattle.kx_resolve.proofs.virtual_modifiers.mapped_keys_of.Goals as goal

pub codes-init : goal.codes-init
codes-init c = λ number real.
    let r : ReadKeymap = keymap_read c.args.keys [] in
    ap (λ mapped_keys. is_brought mapped_keys number real) c.new-mapped_keys.ensures.items ∙ sym (any_none (brings r number real))

pub codes-preserved : goal.codes-preserved
codes-preserved c = λ number real.
    let r : ReadKeymap = keymap_read c.args.keys [] in
    let code = c.codes.code in
    c.in_ok-add_code.ensures.added number real ∙ ap (λ b. b || brings r number real code) (c.codes.invariant number real) ∙ sym (any_next (brings r number real) code)

pub returns-clause-all : goal.returns-clause-all
returns-clause-all c = λ number real.
    let r : ReadKeymap = keymap_read c.args.keys [] in
    let all : c.codes.code ≡ c.end-code-end.result = omega (arith, c.codes-test.false, c.codes.auto.code-end) in
    c.codes.invariant number real ∙ ap (λ n. any_below n (brings r number real)) all ∙ sym (all_gathered (λ n. any_below n (brings r number real)) c.end-code-end.result (name_in c.args.keys.named) c.end-code-end.ensures (unnamed_brings r number real))
