use Rattle.std.proofs.Common.{subst}
use Rattle.kx_image.proofs.Refused.{fault_refuses}
use Rattle.kx_handles.specs.Open.{IsRefused}
use Rattle.kx_handles.specs.declared.tables.OpenFault.{OpenFault}
use Rattle.xkc_c.proofs.keymap.xkc_keymap_open.Goals as goal

pub returns-in-Err-Image-clause-none : goal.returns-in-Err-Image-clause-none
returns-in-Err-Image-clause-none c _ =
    let found = c.in-Err-Image.field-0-0 in
    fault_refuses c.args.image.now found (subst (λ (f : OpenFault). IsRefused c.args.image.now f) c.in-Err-Image.field-0-is c.in-Err-Image.ensures.refused)
