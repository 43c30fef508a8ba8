-- The row that a row's bytes tell is the row.
use Rattle.std.proofs.Common.{ℕ, ℤ, pos, negsuc, true, false, ◌≡◌, ◌-◌, ◌<◌, ◌≤◌, ◌≤ℤ◌, ◌^◌, refl, ap, arith, ◌∙◌}
use Rattle.std.proofs.lemmas.Bool.{lt-ltb, le-ltb}
use Rattle.std.proofs.lemmas.Int.{ints}
use Rattle.std.proofs.lemmas.Nat.{from_le_bytes-to_le_bytes_2, from_le_bytes-to_le_bytes_4}
use Rattle.kx_tables.specs.Sound.{ActionHolds}
use Rattle.kx_tables.specs.declared.rows.Action.{Action}
use Rattle.kx_tables.specs.declared.rows.Action.TheVariants as actions
use Rattle.kx_tables.specs.declared.rows.CellRow.{CellRow}
use Rattle.kx_tables.specs.declared.rows.EntryRow.{EntryRow}
use Rattle.kx_tables.specs.declared.rows.GroupChange.TheVariants.{Absolute, Relative}
use Rattle.kx_tables.specs.declared.rows.GroupNameRow.{GroupNameRow}
use Rattle.kx_tables.specs.declared.rows.GroupRow.{GroupRow}
use Rattle.kx_tables.specs.declared.rows.IndicatorRow.{IndicatorRow}
use Rattle.kx_tables.specs.declared.rows.KeyRow.{KeyRow}
use Rattle.kx_tables.specs.declared.rows.Range.{Range}
use Rattle.kx_tables.specs.declared.rows.Range.TheVariants.{Wrap}
use Rattle.kx_tables.specs.declared.rows.TypeRow.{TypeRow}
use Rattle.kx_image.specs.Records.{type_bytes, type_of, entry_bytes, entry_of, key_bytes, key_of, group_bytes, group_of, cell_bytes, cell_of, keysym_bytes, keysym_of, indicator_bytes, indicator_of, group_name_bytes, group_name_of, range_code, redirect_of, range_of, action_code, action_flags, action_mods, action_group, action_of, signed_byte, byte_signed}

both : {A B X : Type 0} (f : A → B → X) {a a' : A} {b b' : B} → a ≡ a' → b ≡ b' → f a b ≡ f a' b'
both f {a} {a'} {b} {b'} p q = ap (λ x. f x b) p ∙ ap (f a') q

three : {A B C X : Type 0} (f : A → B → C → X) {a a' : A} {b b' : B} {c c' : C} → a ≡ a' → b ≡ b' → c ≡ c' → f a b c ≡ f a' b' c'
three f {a} {a'} {b} {b'} {c} {c'} p q r = ap (λ x. f x b c) p ∙ both (f a') q r

fourth : {A B C D X : Type 0} (f : A → B → C → D → X) {a a' : A} {b b' : B} {c c' : C} {d d' : D} → a ≡ a' → b ≡ b' → c ≡ c' → d ≡ d' → f a b c d ≡ f a' b' c' d'
fourth f {a} {a'} {b} {b'} {c} {c'} {d} {d'} p q r t = ap (λ x. f x b c d) p ∙ three (f a') q r t

fifth : {A B C D E X : Type 0} (f : A → B → C → D → E → X) {a a' : A} {b b' : B} {c c' : C} {d d' : D} {e e' : E} → a ≡ a' → b ≡ b' → c ≡ c' → d ≡ d' → e ≡ e' → f a b c d e ≡ f a' b' c' d' e'
fifth f {a} {a'} {b} {b'} {c} {c'} {d} {d'} {e} {e'} p q r t u = ap (λ x. f x b c d e) p ∙ fourth (f a') q r t u

pub type_again : (t : TypeRow) → t.entries < 2 ^ 16 → t.name_length < 2 ^ 16 → t.first_entry < 2 ^ 32 → t.first_name < 2 ^ 32 → type_of (type_bytes t) ≡ t
type_again t h1 h2 h3 h4 =
    let row : ℕ → ℕ → ℕ → ℕ → TypeRow = λ a b c d. record { mods = t.mods; levels = t.levels; entries = a; name_length = b; first_entry = c; first_name = d } in
    fourth row (from_le_bytes-to_le_bytes_2 t.entries h1) (from_le_bytes-to_le_bytes_2 t.name_length h2) (from_le_bytes-to_le_bytes_4 t.first_entry h3) (from_le_bytes-to_le_bytes_4 t.first_name h4)

pub entry_again : (e : EntryRow) → entry_of (entry_bytes e) ≡ e
entry_again e = refl

range_again : (r : Range) → range_of (range_code r) (redirect_of r) ≡ r
range_again Wrap = refl
range_again _ = refl

pub key_again : (k : KeyRow) → k.code < 2 ^ 16 → k.name_length < 2 ^ 16 → k.first_name < 2 ^ 32 → k.first_group < 2 ^ 32 → key_of (key_bytes k) ≡ k
key_again k h1 h2 h3 h4 =
    let row : ℕ → Range → ℕ → ℕ → ℕ → KeyRow = λ a r b c d. record { code = a; modmap = k.modmap; range = r; groups = k.groups; name_length = b; first_name = c; first_group = d } in
    fifth row (from_le_bytes-to_le_bytes_2 k.code h1) (range_again k.range) (from_le_bytes-to_le_bytes_2 k.name_length h2) (from_le_bytes-to_le_bytes_4 k.first_name h3) (from_le_bytes-to_le_bytes_4 k.first_group h4)

pub group_again : (g : GroupRow) → g.key_type < 2 ^ 16 → g.first_cell < 2 ^ 32 → group_of (group_bytes g) ≡ g
group_again g h1 h2 =
    let row : ℕ → ℕ → GroupRow = λ a b. record { key_type = a; first_cell = b } in
    both row (from_le_bytes-to_le_bytes_2 g.key_type h1) (from_le_bytes-to_le_bytes_4 g.first_cell h2)

pub keysym_again : (n : ℕ) → n < 2 ^ 32 → keysym_of (keysym_bytes n) ≡ n
keysym_again n h = from_le_bytes-to_le_bytes_4 n h

pub indicator_again : (d : IndicatorRow) → d.groups < 2 ^ 32 → d.name_length < 2 ^ 16 → d.first_name < 2 ^ 32 → indicator_of (indicator_bytes d) ≡ d
indicator_again d h1 h2 h3 =
    let row : ℕ → ℕ → ℕ → IndicatorRow = λ a b c. record { mods = d.mods; mod_states = d.mod_states; group_states = d.group_states; groups = a; name_length = b; first_name = c } in
    three row (from_le_bytes-to_le_bytes_4 d.groups h1) (from_le_bytes-to_le_bytes_2 d.name_length h2) (from_le_bytes-to_le_bytes_4 d.first_name h3)

pub group_name_again : (g : GroupNameRow) → g.name_length < 2 ^ 16 → g.first_name < 2 ^ 32 → group_name_of (group_name_bytes g) ≡ g
group_name_again g h1 h2 =
    let row : ℕ → ℕ → GroupNameRow = λ a b. record { name_length = a; first_name = b } in
    both row (from_le_bytes-to_le_bytes_2 g.name_length h1) (from_le_bytes-to_le_bytes_4 g.first_name h2)

signed_again : (d : ℤ) → negsuc 31 ≤ℤ d → d ≤ℤ pos 32 → byte_signed (signed_byte d) ≡ d
signed_again (pos n) low high =
    let small : n < 128 = omega (arith, ints) in
    rw (lt-ltb n 128 small)
signed_again (negsuc n) low high =
    let small : n ≤ 31 = omega (arith, ints) in
    let large : 128 ≤ 255 - n = omega arith in
    let back : 255 - (255 - n) ≡ n = omega arith in
    rw (le-ltb (255 - n) 128 large) (ap negsuc back)

action_again : (a : Action) → ActionHolds a → action_of (action_code a) (action_flags a) (action_mods a) (action_group a) ≡ a
action_again actions.None holds = refl
action_again (actions.SetMods m true) holds = refl
action_again (actions.SetMods m false) holds = refl
action_again (actions.LatchMods m true true) holds = refl
action_again (actions.LatchMods m true false) holds = refl
action_again (actions.LatchMods m false true) holds = refl
action_again (actions.LatchMods m false false) holds = refl
action_again (actions.LockMods m true true) holds = refl
action_again (actions.LockMods m true false) holds = refl
action_again (actions.LockMods m false true) holds = refl
action_again (actions.LockMods m false false) holds = refl
action_again (actions.SetGroup (Absolute g) true) holds = refl
action_again (actions.SetGroup (Absolute g) false) holds = refl
action_again (actions.SetGroup (Relative d) true) holds = ap (λ x. actions.SetGroup (Relative x) true) (signed_again d holds.0 holds.1)
action_again (actions.SetGroup (Relative d) false) holds = ap (λ x. actions.SetGroup (Relative x) false) (signed_again d holds.0 holds.1)
action_again (actions.LatchGroup (Absolute g) true true) holds = refl
action_again (actions.LatchGroup (Absolute g) true false) holds = refl
action_again (actions.LatchGroup (Absolute g) false true) holds = refl
action_again (actions.LatchGroup (Absolute g) false false) holds = refl
action_again (actions.LatchGroup (Relative d) true true) holds = ap (λ x. actions.LatchGroup (Relative x) true true) (signed_again d holds.0 holds.1)
action_again (actions.LatchGroup (Relative d) true false) holds = ap (λ x. actions.LatchGroup (Relative x) true false) (signed_again d holds.0 holds.1)
action_again (actions.LatchGroup (Relative d) false true) holds = ap (λ x. actions.LatchGroup (Relative x) false true) (signed_again d holds.0 holds.1)
action_again (actions.LatchGroup (Relative d) false false) holds = ap (λ x. actions.LatchGroup (Relative x) false false) (signed_again d holds.0 holds.1)
action_again (actions.LockGroup (Absolute g)) holds = refl
action_again (actions.LockGroup (Relative d)) holds = ap (λ x. actions.LockGroup (Relative x)) (signed_again d holds.0 holds.1)

pub cell_again : (d : CellRow) → ActionHolds d.action → d.first_keysym < 2 ^ 32 → cell_of (cell_bytes d) ≡ d
cell_again d holds h =
    let row : Action → ℕ → CellRow = λ a b. record { keysyms = d.keysyms; action = a; first_keysym = b } in
    both row (action_again d.action holds) (from_le_bytes-to_le_bytes_4 d.first_keysym h)
