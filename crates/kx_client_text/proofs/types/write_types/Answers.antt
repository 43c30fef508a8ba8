use Rattle.std.proofs.Common.{[], ap, cond}
use Rattle.std.specs.List.{flat_map}
use Rattle.kx_print.proofs.Writing.{◌⨟◌, rewritten}
use Rattle.kx_client_text.specs.Written.{built_in, declared_block, declares_one_level, modifiers_line, types_text}
use Rattle.kx_client_text.proofs.types.write_types.Goals as goal

pub returns : goal.returns
unfolding types_text
returns g c =
    c.write.ensures
    ⨟ (rewritten (ap modifiers_line c.modifiers.ensures) c.write_modifiers.ensures
    ⨟ rewritten (ap (λ types. cond (declares_one_level types) [] built_in) c.types.ensures) c.write_built_in.ensures
    ⨟ rewritten (ap (flat_map declared_block) c.types-2.ensures) c.write_each_declared.ensures)
    ⨟ c.write-2.ensures
