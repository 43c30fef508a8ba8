use Rattle.std.proofs.Common.{ap, ◌∙◌, ◌++◌, ◌∷◌, []}
use Rattle.kx_merge.proofs.Offered.{one_offered}
use Rattle.kx_symbols.specs.Keys.{key_form}
use Rattle.kx_symbols.proofs.keys.one_record.Goals as goal

pub returns-clause-records : goal.returns-clause-records
returns-clause-records c = λ mode o one. one_offered key_form mode c.args.code c.args.key o c.push.new.self.items (c.in_ok-push.ensures.items ∙ ap (λ xs. xs ++ (c.args.code, c.args.key) ∷ []) c.in_ok-records.ensures.items) one
