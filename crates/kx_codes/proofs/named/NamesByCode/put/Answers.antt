use Rattle.std.proofs.Common.{ap, sym, subst, ◌∙◌}
use Rattle.kx_codes.proofs.Entries.{coded_put}
use Rattle.kx_codes.proofs.Naming.{absent_code, absent_named, codes_after, entries_after}
use Rattle.kx_codes.proofs.Standing.{inserted}
use Rattle.kx_codes.specs.Codes.{coded}
use Rattle.kx_codes.specs.Indexed.{Stands, both}
use Rattle.kx_codes.specs.Pairs.{code_in}
use Rattle.std.proofs.Common.{Some, cond, nat_eq}
use Rattle.kx_codes.specs.Pairs.{name_in}
use Rattle.kx_codes.proofs.named.NamesByCode.put.Goals as goal

pub returns-clause-put : goal.returns-clause-put
returns-clause-put c = λ ps s none.
    let name = c.args.name.now in
    let code = c.args.code in
    let es = c.self.inside.names.entries in
    let new = c.insert.new.self.entries in
    let stands = subst (λ m. Stands (both m) ps) (sym c.self.view_is) s in
    let more = entries_after code name es new c.of.result c.of.ensures c.in_ok-insert.ensures.entries (absent_code (both (coded es)) ps name code stands none) in
    inserted (both (coded es)) (both (coded new)) name code
    (λ n. ap (λ fs. code_in (coded fs) n) more ∙ codes_after code name es (absent_named (both (coded es)) ps name code stands none) n)
    (λ d. coded_put es new code c.of.result c.in_ok-insert.ensures.entries d ∙ ap (λ n. cond (nat_eq code d) (Some n) (name_in (coded es) d)) c.of.ensures)
    ps stands none
