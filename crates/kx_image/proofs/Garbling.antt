-- A table's records checked: the fault that names one of them is a fault of the bytes.
use Rattle.std.proofs.Common.{ℕ, List, ◌≡◌, None, Result, Ok, Err, OnOk, IfErr, sym, subst, inl}
use Rattle.kx_tables.specs.declared.check.RecordKind.{RecordKind}
use Rattle.kx_image.specs.Image.{IsCanonical, HasImageFault, RecordGarbled, Garbled}
use Rattle.kx_image.specs.Shape.{shape_fault}
use Rattle.kx_image.specs.Canonical.{IsCanonicalTable, NamesGarbled}
use Rattle.kx_image.specs.declared.fault.ImageFault.{ImageFault}

pub table_told : (is_canonical : List ℕ → Type 0) (size count start count' start' : ℕ) (s : List ℕ) (r : Result (Unit {0}) ImageFault) → count ≡ count' → start ≡ start' → OnOk r (IsCanonicalTable is_canonical size count start s) → OnOk r (IsCanonicalTable is_canonical size count' start' s)
table_told is_canonical size count start count' start' s r count_is start_is told =
    subst (λ (n : ℕ). OnOk r (IsCanonicalTable is_canonical size n start' s)) count_is (subst (λ (p : ℕ). OnOk r (IsCanonicalTable is_canonical size count p s)) start_is told)

named_fault : {X : Type 0} (bytes_of : X → List ℕ) (of : List ℕ → X) (part : RecordKind) (size count start : ℕ) (s : List ℕ) → shape_fault s ≡ None → ((i : ℕ) → Garbled bytes_of of size count start s i → RecordGarbled s part i) → (f : ImageFault) → NamesGarbled (IsCanonical bytes_of of) part size count start s f → HasImageFault s f
named_fault bytes_of of part size count start s whole to f named =
    subst (HasImageFault s) (sym named.is) (whole, inl (to named.index (record { below = named.below; garbled = named.garbled })))

pub garbled_fault : {X : Type 0} (bytes_of : X → List ℕ) (of : List ℕ → X) (part : RecordKind) (size count start count' start' : ℕ) (s : List ℕ) (r : Result (Unit {0}) ImageFault) → shape_fault s ≡ None → ((i : ℕ) → Garbled bytes_of of size count' start' s i → RecordGarbled s part i) → count ≡ count' → start ≡ start' → IfErr r (NamesGarbled (IsCanonical bytes_of of) part size count start s) → IfErr r (HasImageFault s)
garbled_fault bytes_of of part size count start count' start' s (Ok x) whole to count_is start_is named = tt
garbled_fault bytes_of of part size count start count' start' s (Err f) whole to count_is start_is named =
    named_fault bytes_of of part size count' start' s whole to f
    (subst (λ (n : ℕ). NamesGarbled (IsCanonical bytes_of of) part size n start' s f) count_is (subst (λ (p : ℕ). NamesGarbled (IsCanonical bytes_of of) part size count p s f) start_is named))
