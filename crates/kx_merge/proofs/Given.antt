-- Records of one value: none, and one that is given its value.
use Rattle.std.proofs.Common.{◌≡◌, List, [], ◌∷◌, ◌++◌, Some, ap, refl, subst, sym, ◌∙◌}
use Rattle.kx_merge.specs.Offers.{plain_offer}
use Rattle.kx_merge.specs.Records.{AreOffered, none, more}
use Rattle.kx_merge.specs.Single.{single_form}
use Rattle.kx_merge.specs.declared.single.Single.{Single}
use Rattle.kx_tree.specs.declared.tree.Mode.{Mode}

module _ {K V : Type 0} (mode : Mode) (items : List (K × Single V)) where
  pub nothing_offered : items ≡ [] → AreOffered {K = K} {C = Unit {0}} {V = V} mode single_form items []
  nothing_offered e = subst (λ xs. AreOffered {K = K} {C = Unit {0}} {V = V} mode single_form xs []) (sym e) none

  pub one_offered : (before : List (K × Single V)) (key name : K) (value given : V) → items ≡ before ++ (key, record { value = Some value }) ∷ [] → before ≡ [] → key ≡ name → value ≡ given
      → AreOffered mode single_form items (plain_offer {C = Unit {0}} mode name (λ c. Some given) ∷ [])
  one_offered before key name value given is empty named valued =
      subst (λ xs. AreOffered mode single_form xs (plain_offer {C = Unit {0}} mode name (λ c. Some given) ∷ [])) (sym (is ∙ ap (λ xs. xs ++ (key, record { value = Some value }) ∷ []) empty))
      (more (record { mode_is = refl; name_is = sym named; value_is = λ c. ap (λ v. Some v) (sym valued); width_is = λ g. refl }) none)
