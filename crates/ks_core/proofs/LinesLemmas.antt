-- What a line does, by what it holds.
use Rattle.std.proofs.Common.{◌≡◌, ℕ, Bool, true, false, not, cond, ◌&&◌, Option, None, Some, Result, Ok, Err, OnOk, IfErr, List, refl, sym, ap, ◌∙◌}
use Rattle.std.specs.Option.{option_or}
use Rattle.ks_core.specs.BuiltIn.{built_in}
use Rattle.ks_core.specs.Entry.{Entry, keysym_in}
use Rattle.ks_core.specs.Lines.{is_skipped, entry_of, known_keysym, is_another, own_fault, fault_of_line, with_entry, given_after}
use Rattle.ks_core.specs.declared.fault.NameFault.{NameFault}
use Rattle.ks_core.specs.declared.fault.NameFault.TheVariants.{Twice}

option_or-none : {X : Type 0} (a b : Option X) → None ≡ option_or a b → b ≡ None
option_or-none None b h = sym h
option_or-none (Some x) b h = cc

pub not_given : (given : List Entry) (name : List ℕ) → None ≡ known_keysym given name → keysym_in given name ≡ None
unfolding known_keysym
not_given given name h = option_or-none (keysym_in built_in name) (keysym_in given name) h

-- a line that is faulty by itself
pub fault_of_line-own : (given : List Entry) (number : ℕ) (line : List ℕ) (fault : NameFault) → own_fault number line ≡ Some fault → fault_of_line given number line ≡ Some fault
unfolding fault_of_line
fault_of_line-own given number line fault own = rw own refl

-- a line that is skipped
pub fault_of_line-skipped : (given : List Entry) (number : ℕ) (line : List ℕ) → own_fault number line ≡ None → is_skipped line ≡ true → fault_of_line given number line ≡ None
unfolding fault_of_line
fault_of_line-skipped given number line own skipped =
    ap (λ o. option_or o (cond (not (is_skipped line) && is_another (known_keysym given (entry_of line).0) (entry_of line).1) (Some (Twice number)) None)) own
    ∙ ap (λ b. cond (not b && is_another (known_keysym given (entry_of line).0) (entry_of line).1) (Some (Twice number)) None) skipped

pub given_after-skipped : (given : List Entry) (line : List ℕ) → is_skipped line ≡ true → given_after given line ≡ given
unfolding given_after
given_after-skipped given line skipped = ap (λ b. cond b given (with_entry given (entry_of line))) skipped

-- a line that has an entry
pub fault_of_line-entry : (given : List Entry) (number : ℕ) (line : List ℕ) (entry : Entry) (b : Bool) → own_fault number line ≡ None → is_skipped line ≡ false → entry ≡ entry_of line
    → is_another (known_keysym given entry.0) entry.1 ≡ b → fault_of_line given number line ≡ cond b (Some (Twice number)) None
unfolding fault_of_line
fault_of_line-entry given number line entry b own read is another =
    ap (λ o. option_or o (cond (not (is_skipped line) && is_another (known_keysym given (entry_of line).0) (entry_of line).1) (Some (Twice number)) None)) own
    ∙ ap (λ s. cond (not s && is_another (known_keysym given (entry_of line).0) (entry_of line).1) (Some (Twice number)) None) read
    ∙ ap (λ t. cond t (Some (Twice number)) None) (ap (λ (e : Entry). is_another (known_keysym given e.0) e.1) (sym is) ∙ another)

pub given_after-entry : (given : List Entry) (line : List ℕ) (entry : Entry) → is_skipped line ≡ false → entry ≡ entry_of line → given_after given line ≡ with_entry given entry
unfolding given_after
given_after-entry given line entry read is = ap (λ b. cond b given (with_entry given (entry_of line))) read ∙ ap (with_entry given) (sym is)

pub OnOk-map : {X E : Type 0} (r : Result X E) (P Q : Type 0) → (P → Q) → OnOk r P → OnOk r Q
OnOk-map (Ok x) P Q f p = f p
OnOk-map (Err e) P Q f p = tt

pub IfErr-map : {X E : Type 0} (r : Result X E) (P Q : E → Type 0) → ((e : E) → P e → Q e) → IfErr r P → IfErr r Q
IfErr-map (Ok x) P Q f p = tt
IfErr-map (Err e) P Q f p = f e p
