-- Lines of events, and lines that are none.
use Rattle.std.proofs.Common.{◌≡◌, ◌<◌, ◌-◌, ◌==◌, ℕ, Bool, true, false, cond, ◌&&◌, ◌||◌, nat_le, List, Option, None, is_some, length, drop, take, codes, refl, ap, ◌∙◌, arith}
use Rattle.std.proofs.lemmas.Bool.{leb-true, false_from_ne_true, ne_eqb}
use Rattle.std.proofs.lemmas.List.{length-drop}
use Rattle.std.specs.Char.{is_ascii_digit}
use Rattle.std.specs.List.{list_all}
use Rattle.std.specs.Str.{bytes_eq}
use Rattle.kx_run.specs.declared.direction.Direction.TheVariants.{Down, Up}
use Rattle.kx_run.specs.declared.direction.Event.{Event}
use Rattle.kx_lines.specs.EventLines.{code_in, event_of, event_with, has_code_digits, is_well_formed}

and_false : (a b c : Bool) (x y : Option ℕ) → cond (((a && false) && b) && c) x y ≡ y
and_false true b c x y = refl
and_false false b c x y = refl

code_too_long : (digits : List ℕ) → 5 < length digits → code_in digits ≡ None
unfolding code_in has_code_digits
code_too_long digits long =
    let over : nat_le (length digits) 5 ≡ false = false_from_ne_true _ (λ short. let few = leb-true _ _ short in absurd (omega arith)) in
    rw over (and_false (nat_le 1 (length digits)) (list_all is_ascii_digit digits) _ _ _)

no_choice : (a b : Bool) (x y : Option Event) → x ≡ None → y ≡ None → cond a x (cond b y None) ≡ None
no_choice true b x y none other = none
no_choice false true x y none other = other
no_choice false false x y none other = refl

pub long_is_other : (line : List ℕ) → 64 < length line → is_well_formed line ≡ false
unfolding event_of
long_is_other line long =
    let first : code_in (drop 5 line) ≡ None = code_too_long (drop 5 line) (omega (arith, length-drop 5 line)) in
    let second : code_in (drop 3 line) ≡ None = code_too_long (drop 3 line) (omega (arith, length-drop 3 line)) in
    let none : event_of line ≡ None =
    no_choice (bytes_eq (take 5 line) (codes "down ")) (bytes_eq (take 3 line) (codes "up ")) _ _ (ap (event_with Down) first) (ap (event_with Up) second) in
    let some : (length line == 0) ≡ false = ne_eqb (length line) 0 (λ empty. absurd (omega arith)) in
    ap (λ b. b || is_some (event_of line)) some ∙ ap (λ e. false || is_some e) none
