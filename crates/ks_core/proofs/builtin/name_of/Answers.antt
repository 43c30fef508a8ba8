use Rattle.std.proofs.Common.{◌≡◌, ℕ, [], List, Option, None, Some, sym, ap, ◌∙◌, refl, rules}
use Rattle.std.proofs.lemmas.Fn.{always_returns_same}
use Rattle.std.proofs.lemmas.Cmp.{nat_cmp_total}
use Rattle.std.proofs.lemmas.Map.Lookups.{exact_unsigned}
use Rattle.std.specs.Ordering.{nat_cmp}
use Rattle.ks_core.specs.Entry.{name_in}
use Rattle.ks_core.specs.BuiltIn.{built_in}
use Rattle.ks_core.specs.Index.{Row}
use Rattle.ks_core.proofs.IndexLemmas.{not_found}
use Rattle.ks_core.proofs.builtin.name_of.Goals as goal

pub returns-in-Ok : goal.returns-in-Ok
returns-in-Ok c =
    let keysym = c.args.keysym in
    let at = c.in-Ok.ensures.position (λ (e : Row). nat_cmp e.1 keysym) (always_returns_same _ _ _ (λ a r f called. search rules)) (record { ref_ptr = (0, 0); now = [] }, 0) in
    let right = c.by_keysym-entries.ensures.index.right c.in-Ok.index (record { ref_ptr = (0, 0); now = [] }, 0) c.in-Ok.ensures.bound in
    sym right ∙ ap (name_in built_in) (exact_unsigned _ _ at)

pub returns-in-Err : goal.returns-in-Err
returns-in-Err c = by (name_in built_in c.args.keysym) refl
  where
    by : (r : Option (List ℕ)) → name_in built_in c.args.keysym ≡ r → ◌≡◌ {A = Option (List ℕ)} None (name_in built_in c.args.keysym)
    by None none = sym none
    by (Some name) some =
        absurd (not_found nat_cmp_total (λ (e : Row). e.1) c.by_keysym-entries.result.now c.args.keysym c.in-Err.field-0 c.by_keysym-entries.ensures.index.rising
        (c.in-Err.ensures.position (λ (e : Row). nat_cmp e.1 c.args.keysym) (always_returns_same _ _ _ (λ a r f called. search rules))) (c.by_keysym-entries.ensures.index.whole name c.args.keysym some))
