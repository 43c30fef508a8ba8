-- Bytes with a fault are the image of no content; and bytes are the image of one content at most.
use Rattle.std.proofs.Common.{ℕ, List, ◌++◌, ◌≡◌, ◌+◌, ◌<◌, ◌≤◌, inl, inr, None, Some, Result, Ok, Err, IfErr, OnErr, length, take, drop, slice_get, refl, ap, arith, sym, ◌∙◌, subst, length-append, false}
use Rattle.std.specs.Prelude.{nat_lt}
use Rattle.std.specs.List.{flat_map}
use Rattle.std.proofs.Math.Seq.{take-length}
use Rattle.std.proofs.lemmas.Bool.{le-ltb}
use Rattle.std.proofs.lemmas.Option.{slice_get_cases}
use Rattle.kx_tables.proofs.Bounds.{entries_within, groups_within, cells_within, keysyms_within, type_name_within, key_name_within, indicator_name_within, group_name_within}
use Rattle.kx_tables.specs.Content.{Content, greatest_groups, part}
use Rattle.kx_tables.proofs.Fits.{sound_fits, groups_fit}
use Rattle.kx_basics.specs.Keysyms.{IsKeysym}
use Rattle.kx_tables.specs.Sound.{Sound, TypeHolds, KeyHolds, GroupHolds, CellHolds, IndicatorHolds, GroupNameHolds}
use Rattle.kx_tables.proofs.Unsound.{breaks_unsound}
use Rattle.kx_tables.specs.declared.check.RecordKind.{RecordKind}
use Rattle.kx_tables.specs.declared.check.RecordKind.TheVariants as parts
use Rattle.kx_tables.specs.declared.rows.CellRow.{CellRow}
use Rattle.kx_tables.specs.declared.rows.EntryRow.{EntryRow}
use Rattle.kx_tables.specs.declared.rows.GroupNameRow.{GroupNameRow}
use Rattle.kx_tables.specs.declared.rows.GroupRow.{GroupRow}
use Rattle.kx_tables.specs.declared.rows.IndicatorRow.{IndicatorRow}
use Rattle.kx_tables.specs.declared.rows.KeyRow.{KeyRow}
use Rattle.kx_tables.specs.declared.rows.TypeRow.{TypeRow}
use Rattle.kx_image.specs.Cut.{rows_at}
use Rattle.kx_image.specs.Image.{IsImage, IsExpressible, Garbled, RecordGarbled, HasImageFault, body, content_in, header_for, image}
use Rattle.kx_image.specs.Records.{type_bytes, type_of, entry_bytes, entry_of, key_bytes, key_of, group_bytes, group_of, cell_bytes, cell_of, keysym_bytes, keysym_of, indicator_bytes, indicator_of, group_name_bytes, group_name_of}
use Rattle.kx_image.specs.Shape.{front_fault, shape_fault, called_for, header_bytes, header_of, header_size, entries_start, keys_start, groups_start, cells_start, keysyms_start, indicators_start, group_names_start, names_start, group_count}
use Rattle.kx_image.specs.declared.fault.ImageFault.{ImageFault}
use Rattle.kx_image.specs.declared.fault.ImageFault.TheVariants.{Truncated, Magic, Version, Length, BadRecord}
use Rattle.kx_image.specs.declared.header.Header.{Header}
use Rattle.kx_image.specs.declared.header.ImageVersion.{ImageVersion}
use Rattle.kx_image.specs.declared.header.ImageVersion.TheVariants.{One, Two}
use Rattle.kx_image.proofs.Again.{type_again, entry_again, key_again, group_again, cell_again, keysym_again, indicator_again, group_name_again}
use Rattle.kx_image.proofs.Only.{HeaderFits, Old, header_again, front_again, behind_header, length-header, length-table, groups_again}
use Rattle.kx_image.proofs.Slicing.{Read, table_again}

header_fits : (c : Content) (e : ImageVersion) → Sound c → HeaderFits (header_for e c)
header_fits c e sound =
    let fit = sound_fits c sound in
    let few = groups_fit c sound in
    record { groups = omega arith; types = fit.types; keys = fit.keys; entries = fit.entries; cells = fit.cells; keysyms = fit.keysyms; names = fit.names; indicators = fit.indicators; group_names = fit.group_names }

old_header : (c : Content) (e : ImageVersion) → IsExpressible e c → Old e (header_for e c)
old_header c One expressible = (ap length expressible.0, ap length expressible.1)
old_header c Two expressible = tt

-- what a content's image gives back, table by table
record Whole (c : Content) (h : Header) (s : List ℕ) : Type 0 where
  types : Read type_bytes type_of 16 c.types (header_size h.version) s (drop (entries_start h) s)
  entries : Read entry_bytes entry_of 4 c.entries (entries_start h) s (drop (keys_start h) s)
  keys : Read key_bytes key_of 16 c.keys (keys_start h) s (drop (groups_start h) s)
  groups : Read group_bytes group_of 8 c.groups (groups_start h) s (drop (cells_start h (length c.groups)) s)
  cells : Read cell_bytes cell_of 12 c.cells (cells_start h (length c.groups)) s (drop (keysyms_start h (length c.groups)) s)
  keysyms : Read keysym_bytes keysym_of 4 c.keysyms (keysyms_start h (length c.groups)) s (drop (indicators_start h (length c.groups)) s)
  indicators : Read indicator_bytes indicator_of 16 c.indicators (indicators_start h (length c.groups)) s (drop (group_names_start h (length c.groups)) s)
  group_names : Read group_name_bytes group_name_of 8 c.group_names (group_names_start h (length c.groups)) s c.names
  counted : group_count h s ≡ length c.groups
  end : length s ≡ names_start h (length c.groups) + length c.names

module _ (c : Content) (sound : Sound c) where
  type_rereads : (i : ℕ) (t : TypeRow) → slice_get c.types i ≡ Some t → (length (type_bytes t) ≡ 16) × (type_of (type_bytes t) ≡ t)
  type_rereads i t at =
      let holds : TypeHolds c i t = sound.types i t at in
      let p = entries_within c sound i t at in let q = type_name_within c sound i t at in
      let f = sound.counts.entries_fit in let g = sound.counts.names_fit in
      (refl, type_again t holds.entries (let h = holds.name_length in omega arith) (omega arith) (omega arith))

  key_rereads : (i : ℕ) (k : KeyRow) → slice_get c.keys i ≡ Some k → (length (key_bytes k) ≡ 16) × (key_of (key_bytes k) ≡ k)
  key_rereads i k at =
      let holds : KeyHolds c i k = sound.keys i k at in
      let fit = sound_fits c sound in
      let p = groups_within c sound i k at in let q = key_name_within c sound i k at in
      let f = fit.groups in let g = sound.counts.names_fit in
      (refl, key_again k (let h = holds.code in omega arith) (let h = holds.name_length in omega arith) (omega arith) (omega arith))

  group_rereads : (i : ℕ) (g : GroupRow) → slice_get c.groups i ≡ Some g → (length (group_bytes g) ≡ 8) × (group_of (group_bytes g) ≡ g)
  group_rereads i g at =
      let holds : GroupHolds c i g = sound.groups i g at in
      let low : g.key_type < length c.types = holds.key_type in
      let few = sound.counts.types in
      let fit = sound.counts.cells_fit in
      let within = elim ((slice_get_cases c.types g.key_type).1) as (λ _. g.first_cell ≤ length c.cells) [
        | inl here ↦ let w = cells_within c sound i g here.0 at here.2 in omega arith
        | inr past ↦ absurd (let h = past.0 in omega arith)
      ] in
      (refl, group_again g (omega arith) (omega arith))

  cell_rereads : (i : ℕ) (d : CellRow) → slice_get c.cells i ≡ Some d → (length (cell_bytes d) ≡ 12) × (cell_of (cell_bytes d) ≡ d)
  cell_rereads i d at =
      let holds : CellHolds c i d = sound.cells i d at in
      let w = keysyms_within c sound i d at in let f = sound.counts.keysyms_fit in
      (refl, cell_again d holds.action (omega arith))

  keysym_rereads : (i : ℕ) (n : ℕ) → slice_get c.keysyms i ≡ Some n → (length (keysym_bytes n) ≡ 4) × (keysym_of (keysym_bytes n) ≡ n)
  keysym_rereads i n at = let holds : IsKeysym n = sound.keysyms i n at in (refl, keysym_again n (let h = holds.most in omega arith))

  indicator_rereads : (i : ℕ) (d : IndicatorRow) → slice_get c.indicators i ≡ Some d → (length (indicator_bytes d) ≡ 16) × (indicator_of (indicator_bytes d) ≡ d)
  indicator_rereads i d at =
      let holds : IndicatorHolds c i d = sound.indicators i d at in
      let q = indicator_name_within c sound i d at in let g = sound.counts.names_fit in
      (refl, indicator_again d holds.groups (let h = holds.name_length in omega arith) (omega arith))

  group_name_rereads : (i : ℕ) (n : GroupNameRow) → slice_get c.group_names i ≡ Some n → (length (group_name_bytes n) ≡ 8) × (group_name_of (group_name_bytes n) ≡ n)
  group_name_rereads i n at =
      let holds : GroupNameHolds c i n = sound.group_names i n at in
      let q = group_name_within c sound i n at in let g = sound.counts.names_fit in
      (refl, group_name_again n (let h = holds.name_length in omega arith) (omega arith))

length-image : (c : Content) (e : ImageVersion) → length (image e c) ≡ names_start (header_for e c) (length c.groups) + length c.names
length-image c e =
    let tables = body c in
    let a = flat_map type_bytes c.types in
    let b = flat_map entry_bytes c.entries in
    let k = flat_map key_bytes c.keys in
    let g = flat_map group_bytes c.groups in
    let d = flat_map cell_bytes c.cells in
    let y = flat_map keysym_bytes c.keysyms in
    let i = flat_map indicator_bytes c.indicators in
    let m = flat_map group_name_bytes c.group_names in
    omega (
      arith,
      length-append (header_bytes (header_for e c)) (body c),
      length-header (header_for e c),
      length-append a (b ++ (k ++ (g ++ (d ++ (y ++ (i ++ (m ++ c.names))))))),
      length-append b (k ++ (g ++ (d ++ (y ++ (i ++ (m ++ c.names)))))),
      length-append k (g ++ (d ++ (y ++ (i ++ (m ++ c.names))))),
      length-append g (d ++ (y ++ (i ++ (m ++ c.names)))),
      length-append d (y ++ (i ++ (m ++ c.names))),
      length-append y (i ++ (m ++ c.names)),
      length-append i (m ++ c.names),
      length-append m c.names,
      length-table type_bytes 16 (λ x. refl) c.types,
      length-table entry_bytes 4 (λ x. refl) c.entries,
      length-table key_bytes 16 (λ x. refl) c.keys,
      length-table group_bytes 8 (λ x. refl) c.groups,
      length-table cell_bytes 12 (λ x. refl) c.cells,
      length-table keysym_bytes 4 (λ x. refl) c.keysyms,
      length-table indicator_bytes 16 (λ x. refl) c.indicators,
      length-table group_name_bytes 8 (λ x. refl) c.group_names,
    )

-- the tables of an image, one after another
whole_of : (c : Content) (e : ImageVersion) (s : List ℕ) → Sound c → s ≡ image e c → Whole c (header_for e c) s
whole_of c e s sound is =
    let h = header_for e c in
    let n = length c.groups in
    let a0 : drop (header_size e) s ≡ body c = ap (drop (header_size e)) is ∙ behind_header (header_for e c) (body c) in
    let t = table_again type_bytes type_of 16 c.types (header_size e) s _ (type_rereads c sound) a0 in
    let n1 = table_again entry_bytes entry_of 4 c.entries (entries_start (header_for e c)) s _ (λ i x at. (refl, entry_again x)) t.behind in
    let k = table_again key_bytes key_of 16 c.keys (keys_start (header_for e c)) s _ (key_rereads c sound) n1.behind in
    let g = table_again group_bytes group_of 8 c.groups (groups_start (header_for e c)) s _ (group_rereads c sound) k.behind in
    let d = table_again cell_bytes cell_of 12 c.cells (cells_start (header_for e c) (length c.groups)) s _ (cell_rereads c sound) g.behind in
    let y = table_again keysym_bytes keysym_of 4 c.keysyms (keysyms_start (header_for e c) (length c.groups)) s _ (keysym_rereads c sound) d.behind in
    let i = table_again indicator_bytes indicator_of 16 c.indicators (indicators_start (header_for e c) (length c.groups)) s _ (indicator_rereads c sound) y.behind in
    let m = table_again group_name_bytes group_name_of 8 c.group_names (group_names_start (header_for e c) (length c.groups)) s _ (group_name_rereads c sound) i.behind in
    let groups_are : group_count (header_for e c) s ≡ length c.groups = groups_again c.keys (keys_start (header_for e c)) s _ n1.behind ∙ sym sound.counts.groups in
    record {
      types = record { rows = t.rows; behind = refl; records = t.records };
      entries = record { rows = n1.rows; behind = refl; records = n1.records };
      keys = record { rows = k.rows; behind = refl; records = k.records };
      groups = record { rows = g.rows; behind = refl; records = g.records };
      cells = record { rows = d.rows; behind = refl; records = d.records };
      keysyms = record { rows = y.rows; behind = refl; records = y.records };
      indicators = record { rows = i.rows; behind = refl; records = i.records };
      group_names = m;
      counted = groups_are;
      end = ap length is ∙ length-image c e;
    }

same_content : (a a' : List TypeRow) (b b' : List EntryRow) (k k' : List KeyRow) (g g' : List GroupRow) (d d' : List CellRow) (y y' : List ℕ) (i i' : List IndicatorRow) (m m' : List GroupNameRow) (n n' : List ℕ) → a ≡ a' → b ≡ b' → k ≡ k' → g ≡ g' → d ≡ d' → y ≡ y' → i ≡ i' → m ≡ m' → n ≡ n'
    → ◌≡◌ {A = Content} (record { types = a; entries = b; keys = k; groups = g; cells = d; keysyms = y; indicators = i; group_names = m; names = n }) (record { types = a'; entries = b'; keys = k'; groups = g'; cells = d'; keysyms = y'; indicators = i'; group_names = m'; names = n' })
same_content a a' b b' k k' g g' d d' y y' i i' m m' n n' p q r t u v w x z = cc

-- the rows that bytes tell with a header and so many groups
abbrev content_with : Header → ℕ → List ℕ → Content
content_with h groups s = record {
  types = rows_at type_of 16 h.types (header_size h.version) s;
  entries = rows_at entry_of 4 h.entries (entries_start h) s;
  keys = rows_at key_of 16 h.keys (keys_start h) s;
  groups = rows_at group_of 8 groups (groups_start h) s;
  cells = rows_at cell_of 12 h.cells (cells_start h groups) s;
  keysyms = rows_at keysym_of 4 h.keysyms (keysyms_start h groups) s;
  indicators = rows_at indicator_of 16 h.indicators (indicators_start h groups) s;
  group_names = rows_at group_name_of 8 h.group_names (group_names_start h groups) s;
  names = part s (names_start h groups) h.names;
}

content_again : (c : Content) (e : ImageVersion) (s : List ℕ) → Whole c (header_for e c) s → content_with (header_for e c) (length c.groups) s ≡ c
content_again c e s whole =
    same_content _ _ _ _ _ _ _ _ _ _ _ _ _ _ _ _ _ _ whole.types.rows whole.entries.rows whole.keys.rows whole.groups.rows whole.cells.rows whole.keysyms.rows whole.indicators.rows whole.group_names.rows
    (ap (take (length c.names)) whole.group_names.behind ∙ take-length c.names)

record Told (c : Content) (e : ImageVersion) (s : List ℕ) : Type 0 where
  header : header_of s ≡ header_for e c
  whole : Whole c (header_for e c) s
  counted : group_count (header_of s) s ≡ length c.groups
  content : content_in s ≡ c
  form : shape_fault s ≡ None

form_of : (s : List ℕ) → front_fault s ≡ None → length s ≡ called_for s → shape_fault s ≡ None
form_of s front end =
    let first : nat_lt (length s) (called_for s) ≡ false = le-ltb (length s) (called_for s) (omega (arith, end)) in
    let second : nat_lt (called_for s) (length s) ≡ false = le-ltb (called_for s) (length s) (omega (arith, end)) in
    rw front (rw (first, second))

told_of : (c : Content) (s : List ℕ) (img : IsImage c s) → Told c img.version s
told_of c s img =
    let e = img.version in
    let header : header_of s ≡ header_for img.version c = ap header_of img.is ∙ header_again (header_for img.version c) (body c) (header_fits c img.version img.sound) (old_header c img.version img.expressible) in
    let whole = whole_of c img.version s img.sound img.is in
    let counted : group_count (header_of s) s ≡ length c.groups = ap (λ (h : Header). group_count h s) header ∙ whole.counted in
    let end : length s ≡ called_for s = whole.end ∙ sym (ap (λ (h : Header). names_start h (group_count h s) + h.names) header ∙ ap (λ n. names_start (header_for img.version c) n + length c.names) whole.counted) in
    record {
      header = header;
      whole = whole;
      counted = counted;
      content = ap (λ (h : Header). content_with h (group_count h s) s) header ∙ ap (λ n. content_with (header_for img.version c) n s) whole.counted ∙ content_again c img.version s whole;
      form = form_of s (ap front_fault img.is ∙ front_again (header_for img.version c) (body c)) end;
    }

-- a record that is the bytes of a row isn't garbled
ungarbled : {X : Type 0} (bytes_of : X → List ℕ) (of : List ℕ → X) (size : ℕ) (xs : List X) (start : ℕ) (s rest : List ℕ) → Read bytes_of of size xs start s rest → ((i : ℕ) (x : X) → slice_get xs i ≡ Some x → (length (bytes_of x) ≡ size) × (of (bytes_of x) ≡ x)) → (i : ℕ) → Garbled bytes_of of size (length xs) start s i → ⊥
ungarbled bytes_of of size xs start s rest read again i bad =
    elim ((slice_get_cases xs i).1) [
      | inl here ↦
          let record_is = read.records i here.0 here.2 in
          bad.garbled (ap (λ t. bytes_of (of t)) record_is ∙ ap bytes_of (again i here.0 here.2).1 ∙ sym record_is)
      | inr past ↦ absurd (let low = bad.below in let h = past.0 in omega arith)
    ]

no_garbled : (c : Content) (e : ImageVersion) (s : List ℕ) → Sound c → Told c e s → (part : RecordKind) (i : ℕ) → RecordGarbled s part i → ⊥
no_garbled c e s sound told parts.Header i bad = bad.1 (ap (λ (h : Header). h.groups) told.header ∙ sym (ap (λ (d : Content). greatest_groups d.keys) told.content))
no_garbled c e s sound told parts.KeyType i bad = ungarbled type_bytes type_of 16 c.types (header_size e) s _ told.whole.types (type_rereads c sound) i (subst (λ (h : Header). Garbled type_bytes type_of 16 h.types (header_size h.version) s i) told.header bad)
no_garbled c e s sound told parts.Entry i bad = ungarbled entry_bytes entry_of 4 c.entries (entries_start (header_for e c)) s _ told.whole.entries (λ j x at. (refl, entry_again x)) i (subst (λ (h : Header). Garbled entry_bytes entry_of 4 h.entries (entries_start h) s i) told.header bad)
no_garbled c e s sound told parts.Key i bad = ungarbled key_bytes key_of 16 c.keys (keys_start (header_for e c)) s _ told.whole.keys (key_rereads c sound) i (subst (λ (h : Header). Garbled key_bytes key_of 16 h.keys (keys_start h) s i) told.header bad)
no_garbled c e s sound told parts.Group i bad = ungarbled group_bytes group_of 8 c.groups (groups_start (header_for e c)) s _ told.whole.groups (group_rereads c sound) i
    (subst (λ (n : ℕ). Garbled group_bytes group_of 8 n (groups_start (header_for e c)) s i) told.counted (subst (λ (h : Header). Garbled group_bytes group_of 8 (group_count (header_of s) s) (groups_start h) s i) told.header bad))
no_garbled c e s sound told parts.Cell i bad = ungarbled cell_bytes cell_of 12 c.cells (cells_start (header_for e c) (length c.groups)) s _ told.whole.cells (cell_rereads c sound) i
    (subst (λ (n : ℕ). Garbled cell_bytes cell_of 12 (length c.cells) (cells_start (header_for e c) n) s i) told.counted (subst (λ (h : Header). Garbled cell_bytes cell_of 12 h.cells (cells_start h (group_count (header_of s) s)) s i) told.header bad))
no_garbled c e s sound told parts.Keysym i bad = ungarbled keysym_bytes keysym_of 4 c.keysyms (keysyms_start (header_for e c) (length c.groups)) s _ told.whole.keysyms (keysym_rereads c sound) i
    (subst (λ (n : ℕ). Garbled keysym_bytes keysym_of 4 (length c.keysyms) (keysyms_start (header_for e c) n) s i) told.counted (subst (λ (h : Header). Garbled keysym_bytes keysym_of 4 h.keysyms (keysyms_start h (group_count (header_of s) s)) s i) told.header bad))
no_garbled c e s sound told parts.Indicator i bad = ungarbled indicator_bytes indicator_of 16 c.indicators (indicators_start (header_for e c) (length c.groups)) s _ told.whole.indicators (indicator_rereads c sound) i
    (subst (λ (n : ℕ). Garbled indicator_bytes indicator_of 16 (length c.indicators) (indicators_start (header_for e c) n) s i) told.counted (subst (λ (h : Header). Garbled indicator_bytes indicator_of 16 h.indicators (indicators_start h (group_count (header_of s) s)) s i) told.header bad))
no_garbled c e s sound told parts.GroupName i bad = ungarbled group_name_bytes group_name_of 8 c.group_names (group_names_start (header_for e c) (length c.groups)) s _ told.whole.group_names (group_name_rereads c sound) i
    (subst (λ (n : ℕ). Garbled group_name_bytes group_name_of 8 (length c.group_names) (group_names_start (header_for e c) n) s i) told.counted (subst (λ (h : Header). Garbled group_name_bytes group_name_of 8 h.group_names (group_names_start h (group_count (header_of s) s)) s i) told.header bad))
no_garbled c e s sound told parts.Name i bad = bad

pub fault_refuses : (s : List ℕ) (f : ImageFault) → HasImageFault s f → (c : Content) → IsImage c s → ⊥
fault_refuses s Truncated has c img = let told = told_of c s img in let form = told.form in cc (has, form)
fault_refuses s Magic has c img = let told = told_of c s img in let form = told.form in cc (has, form)
fault_refuses s Version has c img = let told = told_of c s img in let form = told.form in cc (has, form)
fault_refuses s Length has c img = let told = told_of c s img in let form = told.form in cc (has, form)
fault_refuses s (BadRecord part i) has c img =
    let told = told_of c s img in
    elim has.1 [
      | inl bad ↦ no_garbled c img.version s img.sound told part i bad
      | inr bad ↦ breaks_unsound (content_in s) part i bad (subst Sound (sym told.content) img.sound)
    ]

pub refusal_only : {A : Type 0} (s : List ℕ) (r : Result A ImageFault) → IfErr r (HasImageFault s) → OnErr r ((c : Content) → IsImage c s → ⊥)
refusal_only s (Ok x) has = tt
refusal_only s (Err f) has = fault_refuses s f has

-- bytes are the image of one content at most
pub one_content : (s : List ℕ) (c d : Content) → IsImage c s → IsImage d s → c ≡ d
one_content s c d p q = let told = told_of c s p in let other = told_of d s q in sym told.content ∙ other.content

-- what the bytes tell is what they are the image of
pub content_is : (s : List ℕ) (c : Content) → IsImage c s → content_in s ≡ c
content_is s c p = let told = told_of c s p in told.content
