-- Names that differ by number are new by row.
use Rattle.std.proofs.Common.{ℕ, List, [], ◌≡◌, ◌<◌, Some, length, slice_get, arith, ap, sym, ◌∙◌, inl, inr, subst, Result, Ok, Err, OnOk, IfErr}
use Rattle.std.specs.Option.{option_map_or}
use Rattle.std.proofs.lemmas.Option.{slice_get_within, slice_get_cases}
use Rattle.kx_tables.specs.Broken.{Breaks, RowBreaks}
use Rattle.kx_tables.specs.Content.{Content}
use Rattle.kx_tables.specs.Names.{NamesDiffer, IsRepeated}
use Rattle.kx_tables.specs.SoFar.{NamesAreNew}
use Rattle.kx_tables.specs.Sound.{IsNewName}
use Rattle.kx_tables.specs.declared.check.Broken.{Broken}
use Rattle.kx_tables.specs.declared.check.RecordKind.{RecordKind}

abbrev pub numbered_name : {X : Type 0} → List X → (X → List ℕ) → ℕ → List ℕ
numbered_name xs name_of i = option_map_or name_of (slice_get xs i) []

name_there : {X : Type 0} (xs : List X) (name_of : X → List ℕ) (i : ℕ) (x : X) → slice_get xs i ≡ Some x → numbered_name xs name_of i ≡ name_of x
name_there xs name_of i x at = ap (λ o. option_map_or name_of o []) at

pub names_are_new : {X : Type 0} (xs : List X) (name_of : X → List ℕ) (count : ℕ) → count ≡ length xs → NamesDiffer (numbered_name xs name_of) count → NamesAreNew xs name_of
names_are_new xs name_of count whole differ i x at j y before at' same =
    let within : i < length xs = slice_get_within xs i x at in
    differ j i before (omega arith) (name_there xs name_of j y at' ∙ same ∙ sym (name_there xs name_of i x at))

pub repeated_breaks : {X : Type 0} (xs : List X) (name_of : X → List ℕ) (P : ℕ → X → Type 0) (is_new : (i : ℕ) (x : X) → P i x → IsNewName xs name_of i (name_of x)) (count j : ℕ) → count ≡ length xs → IsRepeated (numbered_name xs name_of) count j → RowBreaks xs P j
repeated_breaks xs name_of P is_new count j whole repeated =
    let bound = repeated.below in
    let order = repeated.before in
    elim ((slice_get_cases xs j).1) [
      | inr past ↦ absurd (let h = past.0 in omega arith)
      | inl here ↦ elim ((slice_get_cases xs repeated.earlier).1) [
        | inr past ↦ absurd (let h = past.0 in omega arith)
        | inl there ↦ (
          here.0,
          here.2,
          λ holds. is_new j here.0 holds repeated.earlier there.0 order there.2
              (sym (name_there xs name_of repeated.earlier there.0 there.2) ∙ repeated.same ∙ name_there xs name_of j here.0 here.2),
        )
      ]
    ]

pub on_ok : {P Q : Type 0} (r : Result (Unit {0}) Broken) → (P → Q) → OnOk r P → OnOk r Q
on_ok (Ok x) f p = f p
on_ok (Err b) f p = tt

pub if_err : (P Q : Broken → Type 0) (r : Result (Unit {0}) Broken) → ((b : Broken) → P b → Q b) → IfErr r P → IfErr r Q
if_err P Q (Ok x) f p = tt
if_err P Q (Err b) f p = f b p

-- what a check of numbered names answers, of one kind of row
pub names_checked : {X : Type 0} (c : Content) (part : RecordKind) (xs : List X) (name_of : X → List ℕ) (P : ℕ → X → Type 0) (is_new : (i : ℕ) (x : X) → P i x → IsNewName xs name_of i (name_of x)) (breaks : (j : ℕ) → RowBreaks xs P j → Breaks c part j) (count : ℕ) → count ≡ length xs → (r : Result (Unit {0}) Broken)
    → IfErr r (λ b. (b.part ≡ part) × IsRepeated (numbered_name xs name_of) count b.index) → IfErr r (λ b. Breaks c b.part b.index)
names_checked c part xs name_of P is_new breaks count whole r =
    if_err (λ b. (b.part ≡ part) × IsRepeated (numbered_name xs name_of) count b.index) (λ b. Breaks c b.part b.index) r
    (λ b h. subst (λ (p : RecordKind). Breaks c p b.index) (sym h.0) (breaks b.index (repeated_breaks xs name_of P is_new count b.index whole h.1)))
