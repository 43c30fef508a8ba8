-- What the statements of a printed symbols section offer keys.
use Rattle.std.proofs.Common.{◌≡◌, ℕ, List, [], ◌∷◌, ◌++◌, Option, Some, nat_eq, refl, ap, ap₂, ◌∙◌}
use Rattle.ks_core.specs.Table.{KeysymTable}
use Rattle.kx_codes.specs.Codes.{Codes, code_of}
use Rattle.kx_include.specs.Expansion.{Body, End, Begin}
use Rattle.kx_include.specs.declared.place.Place.{Place}
use Rattle.kx_lex.specs.declared.fault.Fault.{Fault}
use Rattle.kx_merge.specs.Bodies.{offers, offers_of, faults, faults_of}
use Rattle.kx_merge.specs.Offers.{Offer}
use Rattle.kx_tree.specs.declared.tree.Field.{Field}
use Rattle.kx_tree.specs.declared.tree.Stated.{Stated}
use Rattle.kx_tree.specs.declared.tree.Mode.TheVariants.{Override}
use Rattle.kx_tree.specs.declared.tree.Statement.TheVariants as statements
use Rattle.kx_symbols.specs.Known.{no_defaults}
use Rattle.kx_symbols.specs.Keys.{key_rules, key_moves, key_offer, offered}
use Rattle.kx_symbols.specs.declared.cells.Cell.{Cell}
use Rattle.kx_symbols.specs.declared.cells.CellValue.{CellValue}
use Rattle.roundtrip_meaning.specs.Bodies.{own_body}
use Rattle.roundtrip_meaning.proofs.Silent.{IsSilent, own_append3, silent_offers, silent_faults}
use Rattle.roundtrip_text.specs.Source.{EachOf, PrintedKey, KeyFits}
use Rattle.roundtrip_tree.specs.Keys.{IsKey}
use Rattle.roundtrip_tree.specs.Shows.{AreShown, IsStated, name_at, none, more}
use Rattle.roundtrip_tree.specs.Source.{IsNameStated, IsMapStated}
use Rattle.roundtrip_meaning.proofs.Actions.{known_by}
use Rattle.roundtrip_tree.proofs.Statements.{stated_as, stated_at}
use Rattle.roundtrip_meaning.proofs.KeyFaults.{key_faultless}

module _ (codes : Codes) (names : KeysymTable) (modifiers : List (List ℕ)) (place : Place) where
  -- ---- Names of groups and modifier maps say nothing of keys

  name_silent : (i : Stated) → IsNameStated i → IsSilent (key_rules codes names modifiers) place no_defaults i
  name_silent i is =
      let f = is.shows.is in
      let rules = key_rules codes names modifiers in
      let whole = stated_as i is (statements.Field f.field) f.is in
      let placed : stated_at (statements.Field f.field) i.first i.span ≡ stated_at (statements.Field (record f.field { place = _ })) i.first i.span = ap (λ p. let g : Field = record f.field { place = p } in stated_at (statements.Field g) i.first i.span) f.place_is in
      record {
        next_is = ap (λ (j : Stated). rules.next no_defaults j) (whole ∙ placed);
        offers_none = ap (λ (j : Stated). rules.offers no_defaults place j) whole;
        faults_none = ap (λ (j : Stated). rules.faults no_defaults place j) (whole ∙ placed);
      }

  map_silent : (i : Stated) → IsMapStated i → IsSilent (key_rules codes names modifiers) place no_defaults i
  map_silent i is =
      let m = is.shows in
      let rules = key_rules codes names modifiers in
      let whole = stated_as i is (statements.ModifierMap m.modifier m.entries) m.is in
      record {
        next_is = ap (λ (j : Stated). rules.next no_defaults j) whole;
        offers_none = ap (λ (j : Stated). rules.offers no_defaults place j) whole;
        faults_none = ap (λ (j : Stated). rules.faults no_defaults place j) whole;
      }

  pub names_silent : (is : List Stated) → EachOf IsNameStated is → EachOf (IsSilent (key_rules codes names modifiers) place no_defaults) is
  names_silent [] all = tt
  names_silent (i ∷ is) all = (name_silent i all.0, names_silent is all.1)

  pub maps_silent : (is : List Stated) → EachOf IsMapStated is → EachOf (IsSilent (key_rules codes names modifiers) place no_defaults) is
  maps_silent [] all = tt
  maps_silent (i ∷ is) all = (map_silent i all.0, maps_silent is all.1)

  -- ---- Key statements

  -- by what a key statement shows
  key_stated : (k : PrintedKey) (i : Stated) (is : IsStated (IsKey k) i) → i ≡ stated_at (statements.Key (name_at k.name is.shows.name_span) is.shows.fields) i.first i.span
  key_stated k i is = stated_as i is (statements.Key (name_at k.name is.shows.name_span) is.shows.fields) is.shows.is

  -- what each is offered
  abbrev pub offers_shown : (ks : List PrintedKey) (is : List Stated) → AreShown (λ (k : PrintedKey) i. IsStated (IsKey k) i) ks is → List (Offer ℕ Cell CellValue)
  offers_shown [] [] none = []
  offers_shown [] (i ∷ is) are = elim are [ ]
  offers_shown (k ∷ ks) [] are = elim are [ ]
  offers_shown (k ∷ ks) (i ∷ is) (more one are) = key_offer (known_by names modifiers) one.shows.fields Override k.code ∷ offers_shown ks is are

  keys_offer : (ks : List PrintedKey) (is : List Stated) (rest : Body) (are : AreShown (λ (k : PrintedKey) i. IsStated (IsKey k) i) ks is) → EachOf (λ (k : PrintedKey). code_of codes k.name ≡ Some k.code) ks
      → offers nat_eq (key_rules codes names modifiers) key_moves no_defaults (own_body place is rest) ≡ offers_shown ks is are ++ offers nat_eq (key_rules codes names modifiers) key_moves no_defaults rest
  keys_offer [] [] rest none coded = refl
  keys_offer [] (i ∷ is) rest are coded = elim are [ ]
  keys_offer (k ∷ ks) [] rest are coded = elim are [ ]
  keys_offer (k ∷ ks) (i ∷ is) rest (more one are) coded =
      ap (λ (j : Stated). offers nat_eq (key_rules codes names modifiers) key_moves no_defaults (own_body place (j ∷ is) rest)) (key_stated k i one)
      ∙ ap (λ (o : Option ℕ). offered (known_by names modifiers) one.shows.fields Override o ++ offers nat_eq (key_rules codes names modifiers) key_moves no_defaults (own_body place is rest)) coded.0
      ∙ ap (λ os. key_offer (known_by names modifiers) one.shows.fields Override k.code ∷ os) (keys_offer ks is rest are coded.1)

  module _ (ks : List PrintedKey) (nis kis mis : List Stated) (named : EachOf IsNameStated nis) (keys : AreShown (λ (k : PrintedKey) i. IsStated (IsKey k) i) ks kis) (maps : EachOf IsMapStated mis) where
    abbrev symbols : Body
    symbols = Begin (own_body place (nis ++ (kis ++ mis)) End)

    pub symbols_offer : EachOf (λ (k : PrintedKey). code_of codes k.name ≡ Some k.code) ks → offers_of nat_eq (key_rules codes names modifiers) key_moves symbols ≡ offers_shown ks kis keys ++ []
    symbols_offer coded =
        ap (offers nat_eq (key_rules codes names modifiers) key_moves no_defaults) (own_append3 place nis kis mis End)
        ∙ silent_offers (key_rules codes names modifiers) nat_eq key_moves place no_defaults nis (own_body place kis (own_body place mis End)) (names_silent nis named)
        ∙ keys_offer ks kis (own_body place mis End) keys coded
        ∙ ap (λ os. offers_shown ks kis keys ++ os) (silent_offers (key_rules codes names modifiers) nat_eq key_moves place no_defaults mis End (maps_silent mis maps))

    keys_fault : (ls : List PrintedKey) (is : List Stated) (rest : Body) → EachOf KeyFits ls → AreShown (λ (k : PrintedKey) i. IsStated (IsKey k) i) ls is
        → faults nat_eq (key_rules codes names modifiers) key_moves no_defaults (own_body place is rest) ≡ faults nat_eq (key_rules codes names modifiers) key_moves no_defaults rest
    keys_fault [] [] rest fit none = refl
    keys_fault [] (i ∷ is) rest fit are = elim are [ ]
    keys_fault (l ∷ ls) [] rest fit are = elim are [ ]
    keys_fault (l ∷ ls) (i ∷ is) rest fit (more one are) =
        ap₂ (λ (fs : List Fault) d. fs ++ faults nat_eq (key_rules codes names modifiers) key_moves d (own_body place is rest)) (key_faultless place.file names modifiers l i fit.0 one) (ap ((key_rules codes names modifiers).next no_defaults) (key_stated l i one))
        ∙ keys_fault ls is rest fit.1 are

    pub symbols_faultless : EachOf KeyFits ks → faults_of nat_eq (key_rules codes names modifiers) key_moves symbols ≡ []
    symbols_faultless fit =
        ap (faults nat_eq (key_rules codes names modifiers) key_moves no_defaults) (own_append3 place nis kis mis End)
        ∙ silent_faults (key_rules codes names modifiers) nat_eq key_moves place no_defaults nis (own_body place kis (own_body place mis End)) (names_silent nis named)
        ∙ keys_fault ks kis (own_body place mis End) fit keys
        ∙ silent_faults (key_rules codes names modifiers) nat_eq key_moves place no_defaults mis End (maps_silent mis maps)
