-- Records that show offers, and one more.
use Rattle.std.proofs.Common.{◌≡◌, ℕ, Bool, true, false, cond, List, [], ◌∷◌, ◌++◌, ◌||◌, Option, None, Some, Result, Ok, Err, OnOk, is_some, refl, sym, ap, ◌∙◌, arith}
use Rattle.std.specs.Cmp.{IsEquivalence}
use Rattle.std.specs.List.{list_any}
use Rattle.std.specs.Map.{keys_of, lookup}
use Rattle.indexmap.specs.IndexMap.{insert_entry}
use Rattle.kx_tree.specs.declared.tree.Mode.{Mode}
use Rattle.kx_tree.specs.declared.tree.Mode.TheVariants.{Augment, Override, Replace}
use Rattle.kx_merge.specs.Offers.{Offer, merged_value, merged_width, is_about, value_of, width_of, with_name, names_of}
use Rattle.kx_merge.specs.Records.{Form, IsOffered, Shows, cell_in, width_in}
use Rattle.kx_merge.proofs.Precedence.{value-other, value-more, width-other, width-more, names-more}

pub merged-none : {X : Type 0} (m : Mode) (v : Option X) → merged_value m None v ≡ v
merged-none Augment v = refl
merged-none Override None = refl
merged-none Override (Some x) = refl
merged-none Replace v = refl

pub width-none : (m : Mode) (n : ℕ) → merged_width m 0 n ≡ n
width-none Augment n = omega arith
width-none Override n = omega arith
width-none Replace n = refl

module _ {K C V R : Type 0} (form : Form R C V) (eq : K → K → Bool) (laws : IsEquivalence eq) (same : (j k : K) → eq j k ≡ true → j ≡ k) where
  -- the record at a key is what the one before and an offer make, and the others stay
  pub shows_made : (names new_names : List K) (at new_at : K → Option R) (os : List (Offer K C V)) (mode : Mode) (key : K) (made : R) (o : Offer K C V)
      → Shows form eq names at os → o.mode ≡ mode → o.name ≡ key
      → new_names ≡ with_name eq names key
      → ((q : K) → new_at q ≡ cond (eq key q) (Some made) (at q))
      → ((c : C) → form.cell made c ≡ merged_value mode (cell_in form (at key) c) (o.value c))
      → ((g : ℕ) → form.width made g ≡ merged_width mode (width_in form (at key) g) (o.width g))
      → Shows form eq new_names new_at (os ++ o ∷ [])
  shows_made names new_names at new_at os mode key made o old mode_is name_is named kept cells widths = record {
    names_are = named ∙ ap (λ ns. with_name eq ns key) old.names_are ∙ ap (with_name eq (names_of eq os)) (sym name_is) ∙ sym (names-more eq os o);
    cells_are = λ k c. cells_at k c (eq key k) refl;
    widths_are = λ k g. widths_at k g (eq key k) refl;
  }
    where
      about : (k : K) (b : Bool) → eq key k ≡ b → is_about eq k o ≡ b
      about k b h = ap (eq k) name_is ∙ laws.symm k key ∙ h

      cells_at : (k : K) (c : C) (b : Bool) → eq key k ≡ b → cell_in form (new_at k) c ≡ value_of eq (os ++ o ∷ []) k c
      cells_at k c true h =
          let here = same key k h in
          ap (λ found. cell_in form found c) (kept k ∙ ap (λ b. cond b (Some made) (at k)) h) ∙ cells c ∙ ap (λ j. merged_value mode (cell_in form (at j) c) (o.value c)) here
          ∙ ap (λ v. merged_value mode v (o.value c)) (old.cells_are k c) ∙ sym (value-more eq k o mode mode_is (about k true h) os c)
      cells_at k c false h = ap (λ found. cell_in form found c) (kept k ∙ ap (λ b. cond b (Some made) (at k)) h) ∙ old.cells_are k c ∙ sym (value-other eq k o (about k false h) os c)

      widths_at : (k : K) (g : ℕ) (b : Bool) → eq key k ≡ b → width_in form (new_at k) g ≡ width_of eq (os ++ o ∷ []) k g
      widths_at k g true h =
          let here = same key k h in
          ap (λ found. width_in form found g) (kept k ∙ ap (λ b. cond b (Some made) (at k)) h) ∙ widths g ∙ ap (λ j. merged_width mode (width_in form (at j) g) (o.width g)) here
          ∙ ap (λ v. merged_width mode v (o.width g)) (old.widths_are k g) ∙ sym (width-more eq k o mode mode_is (about k true h) os g)
      widths_at k g false h = ap (λ found. width_in form found g) (kept k ∙ ap (λ b. cond b (Some made) (at k)) h) ∙ old.widths_are k g ∙ sym (width-other eq k o (about k false h) os g)

  -- the same where the offer is a record's
  pub shows_more : (names new_names : List K) (at new_at : K → Option R) (os : List (Offer K C V)) (mode : Mode) (key : K) (r made : R) (o : Offer K C V)
      → Shows form eq names at os → IsOffered mode form key r o
      → new_names ≡ with_name eq names key
      → ((q : K) → new_at q ≡ cond (eq key q) (Some made) (at q))
      → ((c : C) → form.cell made c ≡ merged_value mode (cell_in form (at key) c) (form.cell r c))
      → ((g : ℕ) → form.width made g ≡ merged_width mode (width_in form (at key) g) (form.width r g))
      → Shows form eq new_names new_at (os ++ o ∷ [])
  shows_more names new_names at new_at os mode key r made o old is named kept cells widths =
      shows_made names new_names at new_at os mode key made o old is.mode_is is.name_is named kept
      (λ c. cells c ∙ ap (merged_value mode (cell_in form (at key) c)) (sym (is.value_is c)))
      (λ g. widths g ∙ ap (merged_width mode (width_in form (at key) g)) (sym (is.width_is g)))

  -- a record that is the first at its key
  pub shows_first : (names new_names : List K) (at new_at : K → Option R) (os : List (Offer K C V)) (mode : Mode) (key : K) (r : R) (o : Offer K C V)
      → Shows form eq names at os → IsOffered mode form key r o
      → new_names ≡ with_name eq names key → at key ≡ None
      → ((q : K) → new_at q ≡ cond (eq key q) (Some r) (at q))
      → Shows form eq new_names new_at (os ++ o ∷ [])
  shows_first names new_names at new_at os mode key r o old is named none kept =
      shows_more names new_names at new_at os mode key r r o old is named kept
      (λ c. sym (ap (λ found. merged_value mode (cell_in form found c) (form.cell r c)) none ∙ merged-none mode (form.cell r c)))
      (λ g. sym (ap (λ found. merged_width mode (width_in form found g) (form.width r g)) none ∙ width-none mode (form.width r g)))

-- a map's keys where a key is put, as names with one more
pub keys-put : {K R : Type 0} (eq : K → K → Bool) (es : List (K × R)) (key : K) (r : R) → keys_of (insert_entry eq es key r) ≡ with_name eq (keys_of es) key
keys-put eq [] key r = refl
keys-put eq (e ∷ es) key r = by (eq key e.0) (keys-put eq es key r)
  where
    inner : (b : Bool) → e.0 ∷ cond b (keys_of es) (keys_of es ++ key ∷ []) ≡ cond b (e.0 ∷ keys_of es) (e.0 ∷ (keys_of es ++ key ∷ []))
    inner true = refl
    inner false = refl

    by : (b : Bool) → keys_of (insert_entry eq es key r) ≡ with_name eq (keys_of es) key → keys_of (cond b ((e.0, r) ∷ es) (e ∷ insert_entry eq es key r)) ≡ cond (b || list_any (eq key) (keys_of es)) (e.0 ∷ keys_of es) (e.0 ∷ (keys_of es ++ key ∷ []))
    by true rest = refl
    by false rest = ap (λ ks. e.0 ∷ ks) rest ∙ inner (list_any (eq key) (keys_of es))

-- a key that is there is among the names
pub there : {K R : Type 0} (test : K → Bool) (es : List (K × R)) → is_some (lookup test es) ≡ list_any test (keys_of es)
there test [] = refl
there test (e ∷ es) = by (test e.0) (there test es)
  where
    by : (b : Bool) → is_some (lookup test es) ≡ list_any test (keys_of es) → is_some (cond b (Some e.1) (lookup test es)) ≡ (b || list_any test (keys_of es))
    by true rest = refl
    by false rest = rest

pub keys-there : {K R : Type 0} (eq : K → K → Bool) (es : List (K × R)) (key : K) (r : R) → Some r ≡ lookup (eq key) es → with_name eq (keys_of es) key ≡ keys_of es
keys-there eq es key r found = ap (λ b. cond b (keys_of es) (keys_of es ++ key ∷ [])) (sym (there (eq key) es) ∙ sym (ap is_some found))

pub on_both : {X E : Type 0} {A B C : Type 0} (r : Result X E) → OnOk r A → OnOk r B → (A → B → C) → OnOk r C
on_both (Ok x) a b f = f a b
on_both (Err e) a b f = tt
