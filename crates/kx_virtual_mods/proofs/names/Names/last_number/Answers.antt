use Rattle.std.proofs.Common.{rules, ◌≡◌, Some, slice_get, ap, sym, subst, ◌∙◌}
use Rattle.std.proofs.lemmas.Option.{slice_get-get_or}
use Rattle.std.specs.List.{position}
use Rattle.std.specs.Map.{keys_of}
use Rattle.std.specs.Str.{bytes_eq}
use Rattle.kx_virtual_mods.proofs.Numbered.{own_number}
use Rattle.kx_virtual_mods.proofs.names.Names.last_number.Goals as goal

pub returns-in-Some : goal.returns-in-Some
returns-in-Some c =
    let es = c.self.inside.numbers.entries in
    let n = c.self.inside.last in
    let s = c.as_slice.result.now in
    let e = c.in-Some.field-0.now in
    let looked = c.in-Some.ensures.lookup in
    let there : slice_get s n ≡ Some e = slice_get-get_or s n e looked.3.0 ∙ ap Some (sym looked.1) in
    let at : slice_get es n ≡ Some e = subst (λ l. slice_get l n ≡ Some e) c.as_slice.ensures.value there in
    let same : e.0 ≡ c.args.name.now = search rules in
    ap (position (bytes_eq c.args.name.now)) (sym c.self.view_is) ∙ subst (λ q. position (bytes_eq q) (keys_of es) ≡ Some n) same (own_number es n e.0 e.1 c.as_slice.ensures.unique at)
