-- The bodies of a printed text, each as its statements.
use Rattle.std.proofs.Common.{◌≡◌, List, [], ◌∷◌, ◌++◌, ap, ◌∙◌}
use Rattle.kx_include.specs.Expansion.{Begin, Body, End, body_of}
use Rattle.kx_include.specs.IncludeFaults.{IsWhole}
use Rattle.kx_virtual_mods.specs.Declarations.{virtual_names}
use Rattle.kx_tree.specs.declared.tree.Stated.{Stated}
use Rattle.kx_tree.specs.declared.tree.Kind.TheVariants.{Compat, Keycodes, Symbols, Types}
use Rattle.kx_tables.specs.Content.{Content}
use Rattle.kx_tables.specs.Sound.{Sound}
use Rattle.kx_builder.specs.IndicatorMaps.{ResolvedIndicator}
use Rattle.roundtrip_meaning.specs.Bodies.{own_body, place_of}
use Rattle.roundtrip_meaning.specs.Sources.{indicators_body, symbols_place}
use Rattle.roundtrip_meaning.proofs.Sources.{indicators_are, is_whole, keycodes_are, symbols_are, types_are}
use Rattle.roundtrip_text.specs.Source.{EachOf, NamedGroup, indicators_printed, keys_printed, named_from, names_printed, types_printed}
use Rattle.roundtrip_text.specs.Sections.{map_lines_printed}
use Rattle.roundtrip_tree.specs.Indicators.{IsIndicator}
use Rattle.roundtrip_tree.specs.Shows.{AreShown, IsStated, more, none}
use Rattle.roundtrip_tree.specs.Source.{IsGroupName, IsKeyStated, IsMapStated, IsNameStated}
use Rattle.roundtrip_tree.proofs.KeyForms.{keys_stated, maps_stated}
use Rattle.roundtrip_meaning.specs.NoModifiers.{NoneDeclared, ends, own}
use Rattle.roundtrip_meaning.proofs.NoModifiers.{no_modifiers, types_undeclared, indicators_undeclared, symbols_undeclared}
use Rattle.kx_source.specs.Meaning.{modifier_bodies_of}
use Rattle.kx_roundtrip.specs.Parts.{Parts, parts_of}
use Rattle.kx_roundtrip.proofs.Written.{library, shown}

module _ (c : Content) (sound : Sound c) where
  abbrev pub symbols_stated : List Stated
  symbols_stated = (shown c sound).names ++ ((shown c sound).keys ++ (shown c sound).maps)

  abbrev pub keycodes : Body
  keycodes = Begin (own_body (place_of 0) (shown c sound).keycodes End)

  abbrev pub types : Body
  types = Begin (own_body (place_of 1) (shown c sound).types End)

  abbrev pub compat : Body
  compat = indicators_body (shown c sound).indicators

  abbrev pub symbols : Body
  symbols = Begin (own_body (symbols_place (shown c sound).indicators) symbols_stated End)

  pub keycodes_is : body_of (library c sound) Keycodes ≡ keycodes
  keycodes_is = keycodes_are (shown c sound).keycodes (shown c sound).types symbols_stated (shown c sound).indicators

  pub types_is : body_of (library c sound) Types ≡ types
  types_is = types_are (shown c sound).keycodes (shown c sound).types symbols_stated (shown c sound).indicators

  pub compat_is : body_of (library c sound) Compat ≡ compat
  compat_is = indicators_are (shown c sound).keycodes (shown c sound).types symbols_stated (shown c sound).indicators

  pub symbols_is : body_of (library c sound) Symbols ≡ symbols
  symbols_is = symbols_are (shown c sound).keycodes (shown c sound).types symbols_stated (shown c sound).indicators

  pub whole : IsWhole (library c sound)
  whole = is_whole (shown c sound).keycodes (shown c sound).types symbols_stated (shown c sound).indicators

  -- ---- There are no virtual modifiers

  none_in_compat : (ds : List ResolvedIndicator) (is : List Stated) → AreShown (λ d i. IsStated (IsIndicator d) i) ds is → NoneDeclared (indicators_body is)
  none_in_compat ds [] are = ends
  none_in_compat ds (i ∷ is) are = own (place_of 2) (i ∷ is) (indicators_undeclared ds (i ∷ is) are)

  pub types_declare_none : NoneDeclared types
  types_declare_none = own (place_of 1) (shown c sound).types (types_undeclared (types_printed c) (shown c sound).types (shown c sound).types_are)

  pub compat_declares_none : NoneDeclared compat
  compat_declares_none = none_in_compat (indicators_printed c) (shown c sound).indicators (shown c sound).indicators_are

  pub names_are_stated : EachOf IsNameStated (shown c sound).names
  names_are_stated = all_names (named_from 1 (names_printed c)) (shown c sound).names (shown c sound).names_are
    where
      all_names : (gs : List NamedGroup) (is : List Stated) → AreShown (λ (g : NamedGroup) i. IsStated (IsGroupName g.group g.name) i) gs is → EachOf IsNameStated is
      all_names [] [] none = tt
      all_names [] (i ∷ is) are = elim are [ ]
      all_names (g ∷ gs) [] are = elim are [ ]
      all_names (g ∷ gs) (i ∷ is) (more one are) =
          (record { mode_is = one.mode_is; shows = record { group = g.group; name = g.name; is = one.shows } }, all_names gs is are)

  pub keys_are_stated : EachOf IsKeyStated (shown c sound).keys
  keys_are_stated = keys_stated (keys_printed c) (shown c sound).keys (shown c sound).keys_are

  pub maps_are_stated : EachOf IsMapStated (shown c sound).maps
  maps_are_stated = maps_stated (map_lines_printed (keys_printed c)) (shown c sound).maps (shown c sound).maps_are

  pub symbols_declare_none : NoneDeclared symbols
  symbols_declare_none = own (symbols_place (shown c sound).indicators) symbols_stated (symbols_undeclared (shown c sound).names (shown c sound).keys (shown c sound).maps names_are_stated keys_are_stated maps_are_stated)

  abbrev pub parts : Parts
  parts = record { modifiers = []; keycodes = keycodes; types = types; compat = compat; symbols = symbols }

  pub parts_are : parts_of (library c sound) ≡ parts
  parts_are = λ i. record {
    modifiers = (ap virtual_names bodies_are ∙ no_modifiers types compat symbols types_declare_none compat_declares_none symbols_declare_none) i;
    keycodes = keycodes_is i;
    types = types_is i;
    compat = compat_is i;
    symbols = symbols_is i;
  }
    where
      bodies_are : modifier_bodies_of (library c sound) ≡ types ∷ compat ∷ symbols ∷ []
      bodies_are = λ i. types_is i ∷ compat_is i ∷ symbols_is i ∷ []
