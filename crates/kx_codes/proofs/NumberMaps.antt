-- Maps of numbers as maps of names.
use Rattle.std.proofs.Common.{◌≡◌, IfSome, ℕ, zero, suc, length, Bool, true, false, cond, ◌&&◌, ◌||◌, is_some, List, [], ◌∷◌, Option, None, Some, refl, sym, ap, ◌∙◌, subst, nat_eq, option_map}
use Rattle.std.specs.Cmp.{unsigned_Decides}
use Rattle.std.proofs.lemmas.Bool.{false≢true}
use Rattle.std.specs.List.{list_any, slice_get}
use Rattle.std.specs.Map.{keys_of, lookup, KeepsOthers}
use Rattle.std.specs.Str.{bytes_eq}
use Rattle.indexmap.specs.IndexMap.{insert_entry}
use Rattle.kx_codes.proofs.Entries.{code_named, named_put, named_removed, put_look, removed_look}
use Rattle.kx_codes.specs.Codes.{named, coded}
use Rattle.kx_codes.proofs.Standing.{sharing}
use Rattle.kx_codes.specs.Indexed.{Indexed, Stands}
use Rattle.kx_codes.specs.Numbers.{with_numbers}
use Rattle.kx_codes.specs.Numbers.{number}
use Rattle.kx_codes.specs.Pairs.{Pair, shares, code_in, name_in}

and-true : (b : Bool) → (b && true) ≡ b
and-true true = refl
and-true false = refl

pub single : (n m : ℕ) → bytes_eq (number n) (number m) ≡ nat_eq n m
single n m = and-true (nat_eq n m)

equal : (λ n m. bytes_eq (number n) (number m)) ≡ nat_eq
equal = λ i n m. single n m i

found : (n : ℕ) → (λ k. bytes_eq (number n) (number k)) ≡ nat_eq n
found n = λ i k. single n k i

pub code_numbered : (es : List (ℕ × ℕ)) (n : ℕ) → code_in (named number es) (number n) ≡ lookup (nat_eq n) es
code_numbered es n = code_named number es (number n) ∙ ap (λ test. lookup test es) (found n)

pub put_numbered : (es new : List (ℕ × ℕ)) (k v : ℕ) → new ≡ insert_entry nat_eq es k v → (name : List ℕ) → code_in (named number new) name ≡ cond (bytes_eq (number k) name) (Some v) (code_in (named number es) name)
put_numbered es new k v e = named_put number es new k v (e ∙ ap (λ eq. insert_entry eq es k v) (sym equal))

pub removed_numbered : (es new : List (ℕ × ℕ)) (k : ℕ) → lookup (nat_eq k) new ≡ None → KeepsOthers nat_eq (nat_eq k) es new → (name : List ℕ) → code_in (named number new) name ≡ cond (bytes_eq (number k) name) None (code_in (named number es) name)
removed_numbered es new k gone keeps = named_removed number es new (number k) (ap (λ test. lookup test new) (found k) ∙ gone)
    (subst (λ eq. KeepsOthers eq (λ j. bytes_eq (number k) (number j)) es new) (sym equal) (subst (λ test. KeepsOthers nat_eq test es new) (sym (found k)) keeps))

pub look_numbers : (es : List (ℕ × ℕ)) (code : ℕ) → name_in (coded (with_numbers es)) code ≡ option_map number (lookup (nat_eq code) es)
look_numbers [] code = refl
look_numbers (e ∷ es) code = by (nat_eq code e.0) (look_numbers es code)
  where
    by : (b : Bool) → name_in (coded (with_numbers es)) code ≡ option_map number (lookup (nat_eq code) es) → cond b (Some (number e.1)) (name_in (coded (with_numbers es)) code) ≡ option_map number (cond b (Some e.1) (lookup (nat_eq code) es))
    by true rest = refl
    by false rest = rest

mapped : (b : Bool) (o p : Option ℕ) → option_map number (cond b o p) ≡ cond b (option_map number o) (option_map number p)
mapped true o p = refl
mapped false o p = refl

pub numbers_put : (es new : List (ℕ × ℕ)) (k v : ℕ) → new ≡ insert_entry nat_eq es k v → (code : ℕ) → name_in (coded (with_numbers new)) code ≡ cond (nat_eq k code) (Some (number v)) (name_in (coded (with_numbers es)) code)
numbers_put es new k v e code =
    look_numbers new code
    ∙ ap (option_map number) (ap (lookup (nat_eq code)) e ∙ put_look (λ j. j) nat_eq unsigned_Decides es k v code)
    ∙ mapped (nat_eq k code) (Some v) (lookup (nat_eq code) es)
    ∙ ap (cond (nat_eq k code) (Some (number v))) (sym (look_numbers es code))

pub numbers_removed : (es new : List (ℕ × ℕ)) (k : ℕ) → lookup (nat_eq k) new ≡ None → KeepsOthers nat_eq (nat_eq k) es new → (code : ℕ) → name_in (coded (with_numbers new)) code ≡ cond (nat_eq k code) None (name_in (coded (with_numbers es)) code)
numbers_removed es new k gone keeps code =
    look_numbers new code
    ∙ ap (option_map number) (removed_look (λ j. j) nat_eq unsigned_Decides es new k gone keeps code)
    ∙ mapped (nat_eq k code) None (lookup (nat_eq code) es)
    ∙ ap (cond (nat_eq k code) None) (sym (look_numbers es code))

any-some : (o : Option ℕ) → is_some (option_map number o) ≡ is_some o
any-some None = refl
any-some (Some n) = refl

module _ (es fs : List (ℕ × ℕ)) (n code : ℕ) where
  abbrev shown : Indexed
  shown = record { by_name = named number es; by_code = coded (with_numbers fs) }

  pub shared_number : (r : Bool) (ps : List Pair) → r ≡ is_some (lookup (nat_eq n) es) → r ≡ true → Stands shown ps → r ≡ list_any (shares (record { name = number n; code = code })) ps
  shared_number r ps is holds s = sym (sharing shown ps (number n) code s ∙ ap (λ b. b || is_some (name_in shown.by_code code)) (ap is_some (code_numbered es n) ∙ sym is ∙ holds) ∙ sym holds)

  pub shared_numbers : (r r2 : Bool) (ps : List Pair) → r ≡ is_some (lookup (nat_eq n) es) → r ≡ false → r2 ≡ is_some (lookup (nat_eq code) fs) → Stands shown ps → r2 ≡ list_any (shares (record { name = number n; code = code })) ps
  shared_numbers r r2 ps is fails is2 s = sym (sharing shown ps (number n) code s ∙ ap (λ b. b || is_some (name_in shown.by_code code)) (ap is_some (code_numbered es n) ∙ sym is ∙ fails) ∙ ap is_some (look_numbers fs code) ∙ any-some (lookup (nat_eq code) fs) ∙ sym is2)

-- entries of the maps by place
pub numbers_at : (es : List (ℕ × ℕ)) (i code n : ℕ) → slice_get es i ≡ Some (code, n) → slice_get (with_numbers es) i ≡ Some (code, number n)
numbers_at [] i code n h = absurd (false≢true (ap is_some h))
numbers_at (e ∷ es) zero code n h = ap (option_map {U = ℕ × List ℕ} (λ x. (x.0, number x.1))) h
numbers_at (e ∷ es) (suc i) code n h = numbers_at es i code n h

pub length_numbers : (es : List (ℕ × ℕ)) → length (with_numbers es) ≡ length es
length_numbers [] = refl
length_numbers (e ∷ es) = ap suc (length_numbers es)

pub keys_numbers : (es : List (ℕ × ℕ)) → keys_of es ≡ keys_of (with_numbers es)
keys_numbers [] = refl
keys_numbers (e ∷ es) = ap (λ ks. e.0 ∷ ks) (keys_numbers es)

-- an option of a number as one of a name
pub number_some : (P : List ℕ → Type 0) (o : Option ℕ) → IfSome o (λ n. P (number n)) → IfSome (option_map number o) P
number_some P None h = tt
number_some P (Some n) h = h

pub number_none : (o : Option ℕ) → option_map number o ≡ None → o ≡ None
number_none None h = refl
number_none (Some n) h = absurd (false≢true (ap is_some (sym h)))
