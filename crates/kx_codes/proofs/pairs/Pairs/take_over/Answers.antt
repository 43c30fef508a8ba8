use Rattle.std.proofs.Common.{◌≡◌, ℕ, List, None, Some, option_map, cond, nat_eq, sym, ap, ◌∙◌, rules}
use Rattle.std.specs.Str.{bytes_eq}
use Rattle.kx_codes.proofs.NumberMaps.{number_none, number_some}
use Rattle.kx_codes.specs.Numbers.{number}
use Rattle.kx_codes.specs.Pairs.{Pair, code_in, name_in}
use Rattle.kx_codes.proofs.Places.{dropped, dropped_codes, dropped_names, name_stays, same_place, takes_place}
use Rattle.kx_codes.proofs.pairs.Pairs.take_over.Goals as goal

pub returns-then-eq-clause-took : goal.returns-then-eq-clause-took
returns-then-eq-clause-took c = λ ps s.
    let p : Pair = record { name = number c.args.name; code = c.args.code } in
    let found : c.in_ok-before.before ≡ Some c.args.code = search rules in
    same_place ps c.args.self.now s c.put_code.new.self p (sym c.in_ok-before.ensures.before ∙ found) c.in_ok-before.ensures.put c.in_ok-before.ensures.names

pub returns-clause-took : goal.returns-clause-took
returns-clause-took c = λ ps s.
    let p : Pair = record { name = number c.args.name; code = c.args.code } in
    let new : (c.in_ok-before.before ≡ Some c.args.code → ⊥) = λ e. search rules in
    let gone : (d : ℕ) → name_in c.drop_name.new.self.by_code d ≡ dropped nat_eq c.in_ok-before.before d (name_in c.args.self.now.by_code d) = λ d. dropped_names c.put_code.new.self c.drop_name.new.self c.in_ok-before.before c.drop_name.ensures.dropped c.drop_name.ensures.same d ∙ ap (λ l. dropped nat_eq c.in_ok-before.before d (name_in l d)) c.in_ok-before.ensures.names in
    takes_place ps c.args.self.now s c.drop_code.new.self p c.in_ok-before.before (option_map number c.in_ok-other.other) (sym c.in_ok-before.ensures.before) new
    (sym (c.in_ok-other.ensures.before ∙ gone c.args.code ∙ name_stays c.in_ok-before.before c.args.code (name_in c.args.self.now.by_code c.args.code) new))
    (λ n. dropped_codes c.put_name.new.self c.drop_code.new.self (option_map number c.in_ok-other.other)
    (number_some (λ m. (k : List ℕ) → code_in c.drop_code.new.self.by_name k ≡ cond (bytes_eq m k) None (code_in c.put_name.new.self.by_name k)) c.in_ok-other.other c.drop_code.ensures.dropped)
    (λ none. c.drop_code.ensures.same (number_none c.in_ok-other.other none)) n
    ∙ ap (λ l. dropped bytes_eq (option_map number c.in_ok-other.other) n (code_in l n)) (c.in_ok-other.ensures.codes ∙ c.drop_name.ensures.codes)
    ∙ ap (dropped bytes_eq (option_map number c.in_ok-other.other) n) (c.in_ok-before.ensures.put n))
    (λ d. ap (λ l. name_in l d) c.drop_code.ensures.names ∙ c.in_ok-other.ensures.put d ∙ ap (cond (nat_eq c.args.code d) (Some (number c.args.name))) (gone d))
