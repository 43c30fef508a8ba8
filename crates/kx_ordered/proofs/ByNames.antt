-- Sorted entries whose keys are names, looked up by bytes.
use Rattle.std.proofs.Common.{◌≡◌, ℕ, Bool, true, false, cond, List, [], ◌∷◌, Option, Some, refl, sym, ap, ◌∙◌, true≢false}
use Rattle.std.proofs.lemmas.Slice.Eq.{bytes_eq-Decides}
use Rattle.std.specs.BTreeMap.{insert_entry}
use Rattle.std.specs.Map.{lookup}
use Rattle.std.specs.Ordering.{is_eq, match_ordering}
use Rattle.std.specs.Str.{bytes_eq}
use Rattle.std.specs.declared.cmp.Ordering.{Ordering}
use Rattle.std.specs.declared.cmp.Ordering.TheVariants.{Less, Equal, Greater}
use Rattle.kx_ordered.specs.Names.{name_cmp, name_cmp_ties}

module _ {V : Type 0} where
  pub look_tie : (es : List (List ℕ × V)) (name : List ℕ) → lookup (λ k. is_eq (name_cmp name k)) es ≡ lookup (bytes_eq name) es
  look_tie es name = ap (λ test. lookup test es) (λ i k. sym (name_cmp_ties name k) i)

  match-look : (test : List ℕ → Bool) (r : Ordering) (xs ys zs : List (List ℕ × V)) → lookup test (match_ordering r xs ys zs) ≡ match_ordering r (lookup test xs) (lookup test ys) (lookup test zs)
  match-look test Less xs ys zs = refl
  match-look test Equal xs ys zs = refl
  match-look test Greater xs ys zs = refl

  -- what is looked up once a name is put
  pub put_look : (es : List (List ℕ × V)) (k : List ℕ) (v : V) (name : List ℕ) → lookup (bytes_eq name) (insert_entry name_cmp es k v) ≡ cond (bytes_eq name k) (Some v) (lookup (bytes_eq name) es)
  put_look [] k v name = refl
  put_look (e ∷ es) k v name =
      match-look (bytes_eq name) (name_cmp k e.0) ((k, v) ∷ e ∷ es) ((e.0, v) ∷ es) (e ∷ insert_entry name_cmp es k v)
      ∙ by (name_cmp k e.0) (bytes_eq name k) (bytes_eq name e.0) alike both (lookup (bytes_eq name) (insert_entry name_cmp es k v)) (put_look es k v name)
    where
      alike : is_eq (name_cmp k e.0) ≡ true → bytes_eq name k ≡ bytes_eq name e.0
      alike h = ap (bytes_eq name) ((bytes_eq-Decides k e.0).0 (name_cmp_ties k e.0 ∙ h))

      both : bytes_eq name k ≡ true → bytes_eq name e.0 ≡ true → is_eq (name_cmp k e.0) ≡ true
      both one other = sym (name_cmp_ties k e.0) ∙ (bytes_eq-Decides k e.0).1 (sym ((bytes_eq-Decides name k).0 one) ∙ (bytes_eq-Decides name e.0).0 other)

      rest : Option V
      rest = lookup (bytes_eq name) es

      by : (r : Ordering) (tk te : Bool) → (is_eq r ≡ true → tk ≡ te) → (tk ≡ true → te ≡ true → is_eq r ≡ true) → (o : Option V) → o ≡ cond tk (Some v) rest
          → match_ordering r (cond tk (Some v) (cond te (Some e.1) rest)) (cond te (Some v) rest) (cond te (Some e.1) o) ≡ cond tk (Some v) (cond te (Some e.1) rest)
      by Less tk te p q o is = refl
      by Equal true true p q o is = refl
      by Equal true false p q o is = absurd (true≢false (p refl))
      by Equal false true p q o is = absurd (true≢false (sym (p refl)))
      by Equal false false p q o is = refl
      by Greater true true p q o is = absurd (true≢false (sym (q refl refl)))
      by Greater true false p q o is = is
      by Greater false true p q o is = refl
      by Greater false false p q o is = is
