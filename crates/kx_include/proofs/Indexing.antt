-- What an index of maps finds as sections are added to it.
use Rattle.std.proofs.Common.{◌≡◌, ℕ, ◌+◌, ◌&&◌, Bool, true, false, cond, suc, List, [], ◌∷◌, ◌++◌, length, Option, None, Some, refl, sym, ap, ◌∙◌, arith}
use Rattle.std.proofs.lemmas.Iterator.Adapters.{position_from-zero}
use Rattle.std.proofs.lemmas.Slice.Eq.{bytes_eq-Decides}
use Rattle.std.specs.List.{list_any, position, position_from}
use Rattle.std.specs.Map.{lookup}
use Rattle.std.specs.Option.{option_and_then, option_or}
use Rattle.std.specs.Str.{bytes_eq}
use Rattle.std.specs.BTreeMap.{insert_entry}
use Rattle.std.specs.Ordering.{is_eq}
use Rattle.kx_ordered.specs.Names.{name_cmp}
use Rattle.kx_ordered.proofs.ByNames.{put_look, look_tie}
use Rattle.kx_lex.specs.declared.name.Name.{Name}
use Rattle.kx_tree.specs.declared.tree.Kind.{Kind}
use Rattle.kx_tree.specs.declared.tree.Kind.TheVariants.{Keycodes, Types, Compat, Symbols, Geometry}
use Rattle.kx_tree.specs.declared.tree.Section.{Section}
use Rattle.kx_include.specs.Library.{has_name, is_default_flag, is_of}
use Rattle.kx_include.specs.MapIndex.{IsIndex, MapIndex, found, named_in, number_in, or_here, with_flagged, with_map}
use Rattle.kx_include.specs.declared.kind_maps.KindMaps.{KindMaps}

or_none : (o : Option ℕ) → o ≡ option_or o None
or_none None = refl
or_none (Some n) = refl

-- ---- The first place at which a test passes, where one more stands after

from_more : {X : Type 0} (test : X → Bool) (i : ℕ) (xs : List X) (x : X) → position_from test i (xs ++ x ∷ []) ≡ or_here (position_from test i xs) (test x) (i + length xs)
from_more test i [] x = ap (λ n. cond (test x) (Some n) None) (omega arith)
from_more test i (y ∷ ys) x = by (test y) (from_more test (i + 1) ys x)
  where
    by : (b : Bool) → position_from test (i + 1) (ys ++ x ∷ []) ≡ or_here (position_from test (i + 1) ys) (test x) (i + 1 + length ys)
        → cond b (Some i) (position_from test (i + 1) (ys ++ x ∷ [])) ≡ or_here (cond b (Some i) (position_from test (i + 1) ys)) (test x) (i + suc (length ys))
    by true rest = refl
    by false rest = let same : i + 1 + length ys ≡ i + suc (length ys) = omega arith in rest ∙ ap (or_here (position_from test (i + 1) ys) (test x)) same

position_more : {X : Type 0} (test : X → Bool) (xs : List X) (x : X) (n : ℕ) → length xs ≡ n → position test (xs ++ x ∷ []) ≡ or_here (position test xs) (test x) n
position_more test xs x n many =
    let same : 0 + length xs ≡ n = omega arith in
    position_from-zero test (xs ++ x ∷ []) ∙ from_more test 0 xs x ∙ ap (or_here (position_from test 0 xs) (test x)) same ∙ ap (λ o. or_here o (test x) n) (sym (position_from-zero test xs))

-- ---- The numbers of each kind

and_true : (a : Bool) → (a && true) ≡ a
and_true true = refl
and_true false = refl

and_false : (a : Bool) → (a && false) ≡ false
and_false true = refl
and_false false = refl

-- nothing is added where a second test fails
not_here : (before : Option ℕ) (a : Bool) (n : ℕ) → before ≡ or_here before (a && false) n
not_here before a n = or_none before ∙ ap (λ b. or_here before b n) (sym (and_false a))

number_with : (maps : KindMaps) (s : Section) (n : ℕ) (kind : Kind) → number_in kind (with_map maps s.kind n) ≡ or_here (number_in kind maps) (is_of kind s) n
number_with maps s n kind = by kind s.kind
  where
    by : (kind own : Kind) → number_in kind (with_map maps own n) ≡ or_here (number_in kind maps) (is_of kind (record s { kind = own })) n
    by Keycodes Keycodes = refl
    by Types Types = refl
    by Compat Compat = refl
    by Symbols Symbols = refl
    by Geometry Geometry = refl
    by kind own = or_none (number_in kind maps)

number_flagged : (maps : KindMaps) (s : Section) (n : ℕ) (kind : Kind) → number_in kind (with_flagged maps s n) ≡ or_here (number_in kind maps) (is_of kind s && list_any is_default_flag s.flags) n
number_flagged maps s n kind = by (list_any is_default_flag s.flags)
  where
    by : (b : Bool) → number_in kind (cond b (with_map maps s.kind n) maps) ≡ or_here (number_in kind maps) (is_of kind s && b) n
    by true = number_with maps s n kind ∙ ap (λ b. or_here (number_in kind maps) b n) (sym (and_true (is_of kind s)))
    by false = not_here (number_in kind maps) (is_of kind s) n

-- ---- The sections of a name

-- what a look-up gives of a kind
pub look_is : (es named : List (List ℕ × KindMaps)) (key name : List ℕ) (o : Option KindMaps) → es ≡ named → key ≡ name → lookup (λ k. is_eq (name_cmp key k)) es ≡ o → (kind : Kind) → option_and_then (number_in kind) o ≡ named_in kind name named
look_is es named key name o shown same is kind =
    ap (option_and_then (number_in kind)) (sym is ∙ ap (λ n. lookup (λ k. is_eq (name_cmp n k)) es) same ∙ look_tie es name) ∙ ap (named_in kind name) shown

put_under : (es : List (List ℕ × KindMaps)) (key : List ℕ) (before maps : KindMaps) (s : Section) (given : Name) (n : ℕ) → s.name ≡ Some given → key ≡ given.bytes → maps ≡ with_map before s.kind n
    → ((kind : Kind) → number_in kind before ≡ named_in kind given.bytes es)
    → (kind : Kind) (name : List ℕ) → named_in kind name (insert_entry name_cmp es key maps) ≡ or_here (named_in kind name es) (is_of kind s && has_name name s.name) n
put_under es key before maps s given n has stored made known kind name =
    ap (option_and_then (number_in kind)) (put_look es key maps name)
    ∙ ap (λ bytes. option_and_then (number_in kind) (cond (bytes_eq name bytes) (Some maps) (lookup (bytes_eq name) es))) stored
    ∙ by (bytes_eq name given.bytes) (λ h. (bytes_eq-Decides name given.bytes).0 h)
    ∙ ap (λ g. or_here (named_in kind name es) (is_of kind s && has_name name g) n) (sym has)
  where
    by : (b : Bool) → (b ≡ true → name ≡ given.bytes) → option_and_then (number_in kind) (cond b (Some maps) (lookup (bytes_eq name) es)) ≡ or_here (named_in kind name es) (is_of kind s && b) n
    by true same =
        ap (number_in kind) made ∙ number_with before s n kind
        ∙ ap (λ o. or_here o (is_of kind s) n) (known kind ∙ ap (λ bytes. named_in kind bytes es) (sym (same refl)))
        ∙ ap (λ b. or_here (named_in kind name es) b n) (sym (and_true (is_of kind s)))
    by false same = not_here (named_in kind name es) (is_of kind s) n

-- a section is put under its name, with those of the name before it
pub named_put : (es new named : List (List ℕ × KindMaps)) (key : List ℕ) (before maps : KindMaps) (s : Section) (given : Name) (n : ℕ) → es ≡ named → s.name ≡ Some given → key ≡ given.bytes → new ≡ insert_entry name_cmp es key maps → maps ≡ with_map before s.kind n
    → ((kind : Kind) → number_in kind before ≡ named_in kind given.bytes named)
    → (kind : Kind) (name : List ℕ) → named_in kind name new ≡ or_here (named_in kind name named) (is_of kind s && has_name name s.name) n
named_put es new named key before maps s given n shown has stored put made known kind name =
    ap (named_in kind name) put
    ∙ put_under es key before maps s given n has stored made (λ kind. known kind ∙ ap (named_in kind given.bytes) (sym shown)) kind name
    ∙ ap (λ m. or_here (named_in kind name m) (is_of kind s && has_name name s.name) n) shown

-- ---- One more section

-- the index of sections with one more
pub index_more : (old new : MapIndex) (seen : List Section) (s : Section) (n : ℕ) → length seen ≡ n → IsIndex old seen
    → ((kind : Kind) (name : List ℕ) → found new kind (Some name) ≡ or_here (found old kind (Some name)) (is_of kind s && has_name name s.name) n)
    → new.flagged ≡ with_flagged old.flagged s n → new.first ≡ with_map old.first s.kind n → IsIndex new (seen ++ s ∷ [])
index_more old new seen s n many is named flagged first = record {
  named = λ kind name. named kind name ∙ ap (λ o. or_here o (is_of kind s && has_name name s.name) n) (is.named kind name) ∙ sym (position_more (λ s. is_of kind s && has_name name s.name) seen s n many);
  flagged = λ kind. ap (number_in kind) flagged ∙ number_flagged old.flagged s n kind ∙ ap (λ o. or_here o (is_of kind s && list_any is_default_flag s.flags) n) (is.flagged kind) ∙ sym (position_more (λ s. is_of kind s && list_any is_default_flag s.flags) seen s n many);
  first = λ kind. ap (number_in kind) first ∙ number_with old.first s n kind ∙ ap (λ o. or_here o (is_of kind s) n) (is.first kind) ∙ sym (position_more (is_of kind) seen s n many);
}
