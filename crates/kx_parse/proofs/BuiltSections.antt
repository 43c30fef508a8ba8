-- Sections, of which those that are wanted are built one after another.
use Rattle.std.proofs.Common.{ℕ, zero, suc, ◌≤◌, ◌<◌, if◌then◌else◌, Bool, true, false, List, [], ◌∷◌, ◌++◌, length, map, take, ◌≡◌, Option, Some, None, Result, Ok, Err, get_or, slice_get, sym, ap, subst, refl, arith}
use Rattle.std.specs.Option.{IfNone, IfSome}
use Rattle.std.specs.Result.{IfOk}
use Rattle.kx_lex.specs.declared.fault.Fault.{Fault}
use Rattle.kx_lex.specs.declared.token.Span.{Span}
use Rattle.kx_parse.specs.Outline.{HasNoSectionAt, IsNumbered, IsSectionAt, StandElsewhere, built_from}
use Rattle.kx_tree.specs.declared.tree.Section.{Section}

abbrev pub trees : List (Section × Span) → List Section
trees ss = map (λ s. s.0) ss

-- one more that isn't wanted
pub built-skip : (ws : List Bool) (ss : List (Section × Span)) (n : ℕ) → n < length ss → get_or ws n false ≡ false → take (suc n) (built_from ws (trees ss)) ≡ take n (built_from ws (trees ss)) ++ None ∷ []
built-skip ws [] n less e = absurd (omega arith)
built-skip [] (s ∷ ss) zero less e = refl
built-skip [] (s ∷ ss) (suc n) less e = ap (λ (bs : List (Option Section)). None ∷ bs) (built-skip [] ss n (omega arith) e)
built-skip (w ∷ ws) (s ∷ ss) zero less e = rw e refl
built-skip (w ∷ ws) (s ∷ ss) (suc n) less e = ap (λ (bs : List (Option Section)). (if w then Some s.0 else None) ∷ bs) (built-skip ws ss n (omega arith) e)

-- one more that is
pub built-set : (ws : List Bool) (ss : List (Section × Span)) (n : ℕ) (s : Section × Span) → get_or ws n false ≡ true → slice_get ss n ≡ Some s → take (suc n) (built_from ws (trees ss)) ≡ take n (built_from ws (trees ss)) ++ Some s.0 ∷ []
built-set ws [] n s e f = cc
built-set [] (t ∷ ts) n s e f = cc
built-set (w ∷ ws) (t ∷ ts) zero s e f = let is : t ≡ s = cc in rw (e, is) refl
built-set (w ∷ ws) (t ∷ ts) (suc n) s e f = ap (λ (bs : List (Option Section)). (if w then Some t.0 else None) ∷ bs) (built-set ws ts n s e f)

-- there are no more than sections
pub built-all : (ws : List Bool) (ss : List (Section × Span)) (n : ℕ) → length ss ≤ n → take n (built_from ws (trees ss)) ≡ built_from ws (trees ss)
built-all ws [] zero h = refl
built-all ws [] (suc n) h = refl
built-all ws (s ∷ ss) zero h = absurd (omega arith)
built-all [] (s ∷ ss) (suc n) h = ap (λ (bs : List (Option Section)). None ∷ bs) (built-all [] ss n (omega arith))
built-all (w ∷ ws) (s ∷ ss) (suc n) h = ap (λ (bs : List (Option Section)). (if w then Some s.0 else None) ∷ bs) (built-all ws ss n (omega arith))

-- which section stands at a place
pub placed-at : (ss : List (Section × Span)) (n : ℕ) (place : Span) → slice_get (map (λ s. s.1) ss) n ≡ Some place → (s : Section) × (slice_get ss n ≡ Some (s, place))
placed-at [] n place e = cc
placed-at (t ∷ ts) zero place e = let same : t.1 ≡ place = cc in (t.0, rw (sym same) refl)
placed-at (t ∷ ts) (suc n) place e = placed-at ts n place e

pub numbered-at : (text : List ℕ) (places : List Span) (n : ℕ) (place : Span) (section : Section) → slice_get places n ≡ Some place → IsSectionAt text place section → IsNumbered text places n section
numbered-at text places n place section found is tokens sections reading spelled same =
    let there = placed-at sections n place (subst (λ (ps : List Span). slice_get ps n ≡ Some place) same found) in
    (place, subst (λ (s : Section). slice_get sections n ≡ Some (s, place)) (is tokens sections reading spelled n there.0 there.1) there.1)

pub numbered-in : (text : List ℕ) (places : List Span) (n : ℕ) (place : Span) → slice_get places n ≡ Some place → (r : Result (Option Section) Fault) → IfOk r (λ o. IfSome o (λ s. IsSectionAt text place s)) → IfOk r (λ o. IfSome o (λ s. IsNumbered text places n s))
numbered-in text places n place found (Ok (Some s)) is = numbered-at text places n place s found is
numbered-in text places n place found (Ok None) is = is
numbered-in text places n place found (Err e) is = is

pub elsewhere : (text : List ℕ) (places : List Span) (n : ℕ) (place : Span) → slice_get places n ≡ Some place → HasNoSectionAt text place → StandElsewhere text places
elsewhere text places n place found none tokens sections reading spelled same =
    let there = placed-at sections n place (subst (λ (ps : List Span). slice_get ps n ≡ Some place) same found) in
    none tokens sections reading spelled n there.0 there.1

pub elsewhere-in : (text : List ℕ) (places : List Span) (n : ℕ) (place : Span) → slice_get places n ≡ Some place → (r : Result (Option Section) Fault) → IfOk r (λ o. IfNone o (HasNoSectionAt text place)) → IfOk r (λ o. IfNone o (StandElsewhere text places))
elsewhere-in text places n place found (Ok (Some s)) none = none
elsewhere-in text places n place found (Ok None) none = elsewhere text places n place found none
elsewhere-in text places n place found (Err e) none = none
