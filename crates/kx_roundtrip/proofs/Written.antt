-- The one library of a printed text, and its bodies.
use Rattle.std.proofs.Common.{◌≡◌, ℕ, List, [], ◌++◌, refl, ◌∙◌, subst}
use Rattle.kx_include.specs.Source.{IsRead}
use Rattle.kx_include.specs.Library.{Library}
use Rattle.kx_lex.specs.Reading.{IsReading}
use Rattle.kx_lex.specs.declared.token.Token.{Token}
use Rattle.kx_tree.specs.Sections.{Spells}
use Rattle.kx_tree.specs.declared.tree.Tree.{Tree}
use Rattle.kx_print.specs.Printed.{printed}
use Rattle.kx_lex.specs.Reading.{mark_len}
use Rattle.kx_tables.specs.Content.{Content}
use Rattle.kx_tables.specs.Sound.{Sound}
use Rattle.roundtrip_text.proofs.Texts.{text_reads}
use Rattle.roundtrip_text.specs.Source.{indicators_printed, keys_printed, names_printed, types_printed}
use Rattle.roundtrip_text.proofs.TablesHold.{indicators_fit, keys_fit, names_fit, types_fit}
use Rattle.roundtrip_text.specs.Sections.{printed_slices}
use Rattle.roundtrip_text.proofs.Sections.{printed_lexes}
use Rattle.roundtrip_tree.specs.Sources.{ShowsSource}
use Rattle.roundtrip_tree.proofs.Sources.{source_reads}
use Rattle.roundtrip_meaning.specs.Sources.{library_of}
use Rattle.roundtrip_meaning.proofs.Sources.{read_alone}

-- a text that begins with a letter has no mark before it
unmarked : (c : Content) → mark_len (printed c) ≡ 0
unfolding printed
unmarked c = refl

-- what is proved of tokens and trees
pub record OneReading : Type 0 where
  pub one_reading : (text : List ℕ) (ts us : List Token) → IsReading text ts → IsReading text us → ts ≡ us
  pub one_source : (text : List ℕ) (tokens : List Token) (s t : Tree) → Spells text tokens s → Spells text tokens t → s ≡ t

module _ (c : Content) (sound : Sound c) where
  -- the tokens and the tree of a printed text
  pub record IsPrinted : Type 0 where
    pub tokens : List Token
    pub reading : IsReading (printed c) tokens
    pub tree : Tree
    pub spelled : Spells (printed c) tokens tree
    pub shows : ShowsSource (keys_printed c) (types_printed c) (indicators_printed c) (names_printed c) tree

  pub written : IsPrinted
  written =
      let lexed = text_reads (printed c) (printed_slices c) (printed_lexes c sound) (unmarked c) in
      let r = source_reads (printed c) (keys_printed c) (types_printed c) (indicators_printed c) (names_printed c) (keys_fit c sound) (types_fit c sound) (indicators_fit c sound) (names_fit c sound) lexed.tokens lexed.begins in
      record { tokens = lexed.tokens; reading = lexed.reading; tree = r.tree; spelled = r.spelled; shows = r.shows }

  abbrev pub shown : ShowsSource (keys_printed c) (types_printed c) (indicators_printed c) (names_printed c) written.tree
  shown = written.shows

  -- its one library
  abbrev pub library : Library
  library = library_of written.shows.keycodes written.shows.types written.shows.indicators (written.shows.names ++ (written.shows.keys ++ written.shows.maps))

  pub read_once : OneReading → (other : Library) → IsRead (printed c) [] other → other ≡ library
  read_once laws other read =
      let tokens : read.tokens ≡ written.tokens = laws.one_reading (printed c) read.tokens written.tokens read.reading written.reading in
      let tree : read.tree ≡ written.tree = laws.one_source (printed c) written.tokens read.tree written.tree (subst (λ ts. Spells (printed c) ts read.tree) tokens read.spelled) written.spelled in
      read_alone written.shows.keycodes written.shows.types written.shows.indicators (written.shows.names ++ (written.shows.keys ++ written.shows.maps)) read.tree other (tree ∙ written.shows.tree_is) read.texts
