-- A source and its files are read as one library at most, and those of which one has no tree as none.
use Rattle.std.proofs.Common.{◌≡◌, ℕ, ◌+◌, List, drop, Ok, Err, inl, inr, ap, subst, sym, refl, ◌∙◌, arith}
use Rattle.kx_lex.specs.Reading.{Stops, bad_byte, open_string, open_key_name, past_gap, past_token, at_offset, IsReading, StopsWith}
use Rattle.kx_lex.specs.declared.fault.Fault.{Fault}
use Rattle.kx_lex.specs.declared.fault.Fault.TheVariants as fault
use Rattle.kx_lex.specs.declared.token.Token.{Token}
use Rattle.kx_tree.specs.Sections.{Spells, SpellsFile, StopsWith as TokensStop, FileStopsWith}
use Rattle.kx_tree.specs.declared.tree.Tree.{Tree}
use Rattle.kx_include.specs.Library.{Library, Text}
use Rattle.kx_include.specs.Source.{Handed, IsRead, HasNoTree}
use Rattle.kx_include.specs.Texts.{IsTree, IsStop, IsText, AreTexts, none, more, in_file}

-- what follows a piece is the same for both
stops_after : (offset n m : ℕ) (bs : List ℕ) (f : Fault) → n ≡ m → Stops (offset + m) (drop m bs) f → Stops (offset + n) (drop n bs) f
stops_after offset n m bs f e s = subst (λ (k : ℕ). Stops (offset + k) (drop k bs) f) (sym e) s

stops-one : {offset : ℕ} {bs : List ℕ} {f g : Fault} → Stops offset bs f → Stops offset bs g → f ≡ g
stops-one (bad_byte e) (bad_byte s) = refl
stops-one (bad_byte e) (open_string m s) = cc
stops-one (bad_byte e) (open_key_name m s) = cc
stops-one (bad_byte e) (past_gap m s r) = cc
stops-one (bad_byte e) (past_token k m s r) = cc
stops-one (open_string n e) (bad_byte s) = cc
stops-one {offset} (open_string n e) (open_string m s) = let same : n ≡ m = cc in ap (λ (k : ℕ). fault.OpenString (at_offset offset k)) same
stops-one (open_string n e) (open_key_name m s) = cc
stops-one (open_string n e) (past_gap m s r) = cc
stops-one (open_string n e) (past_token k m s r) = cc
stops-one (open_key_name n e) (bad_byte s) = cc
stops-one (open_key_name n e) (open_string m s) = cc
stops-one {offset} (open_key_name n e) (open_key_name m s) = let same : n ≡ m = cc in ap (λ (k : ℕ). fault.OpenKeyName (at_offset offset k)) same
stops-one (open_key_name n e) (past_gap m s r) = cc
stops-one (open_key_name n e) (past_token k m s r) = cc
stops-one (past_gap n e r) (bad_byte s) = cc
stops-one (past_gap n e r) (open_string m s) = cc
stops-one (past_gap n e r) (open_key_name m s) = cc
stops-one (past_gap n e r) (past_gap m s t) = stops-one r (stops_after _ n m _ _ (cc) t)
stops-one (past_gap n e r) (past_token k m s t) = cc
stops-one (past_token j n e r) (bad_byte s) = cc
stops-one (past_token j n e r) (open_string m s) = cc
stops-one (past_token j n e r) (open_key_name m s) = cc
stops-one (past_token j n e r) (past_gap m s t) = cc
stops-one (past_token j n e r) (past_token k m s t) = stops-one r (stops_after _ n m _ _ (cc) t)

-- what is proved of tokens and trees
pub record Laws : Type 0 where
  pub one_reading : (text : List ℕ) (ts us : List Token) → IsReading text ts → IsReading text us → ts ≡ us
  pub stopped : (text : List ℕ) (tokens : List Token) (e : Fault) → StopsWith text e → IsReading text tokens → ⊥
  pub one_source : (text : List ℕ) (tokens : List Token) (s t : Tree) → Spells text tokens s → Spells text tokens t → s ≡ t
  pub one_file : (text : List ℕ) (tokens : List Token) (s t : Tree) → SpellsFile text tokens s → SpellsFile text tokens t → s ≡ t
  pub source_stopped : (text : List ℕ) (tokens : List Token) (e : Fault) (tree : Tree) → TokensStop text tokens e → Spells text tokens tree → ⊥
  pub file_stopped : (text : List ℕ) (tokens : List Token) (e : Fault) (tree : Tree) → FileStopsWith text tokens e → SpellsFile text tokens tree → ⊥
  pub one_stop : (text : List ℕ) (tokens : List Token) (e f : Fault) → FileStopsWith text tokens e → FileStopsWith text tokens f → e ≡ f

module _ (laws : Laws) where
  tree-one : (bytes : List ℕ) (s t : Tree) → IsTree bytes s → IsTree bytes t → s ≡ t
  tree-one bytes s t a b =
      let same : b.1.0 ≡ a.1.0 = laws.one_reading bytes b.1.0 a.1.0 b.1.1 a.1.1 in
      laws.one_file bytes a.1.0 s t a.1.2 (subst (λ (ts : List Token). SpellsFile bytes ts t) same b.1.2)

  tree-never_stops : (bytes : List ℕ) (s : Tree) (e : Fault) → IsTree bytes s → IsStop bytes e → ⊥
  tree-never_stops bytes s e a (inl long) = let short = a.0 in let past = long.0 in omega arith
  tree-never_stops bytes s e a (inr (short, inl stop)) = laws.stopped bytes a.1.0 e stop a.1.1
  tree-never_stops bytes s e a (inr (short, inr (tokens, reading, stop))) =
      let same : tokens ≡ a.1.0 = laws.one_reading bytes tokens a.1.0 reading a.1.1 in
      laws.file_stopped bytes a.1.0 e s (subst (λ (ts : List Token). FileStopsWith bytes ts e) same stop) a.1.2

  stop-one : (bytes : List ℕ) (e f : Fault) → IsStop bytes e → IsStop bytes f → e ≡ f
  stop-one bytes e f (inl a) (inl b) = a.1 ∙ sym b.1
  stop-one bytes e f (inl a) (inr b) = let short = b.0 in let past = a.0 in absurd (omega arith)
  stop-one bytes e f (inr a) (inl b) = let short = a.0 in let past = b.0 in absurd (omega arith)
  stop-one bytes e f (inr (_, inl a)) (inr (_, inl b)) = stops-one a.stops b.stops
  stop-one bytes e f (inr (_, inl a)) (inr (_, inr (tokens, reading, stop))) = absurd (laws.stopped bytes tokens e a reading)
  stop-one bytes e f (inr (_, inr (tokens, reading, stop))) (inr (_, inl b)) = absurd (laws.stopped bytes tokens f b reading)
  stop-one bytes e f (inr (_, inr (tokens, reading, stop))) (inr (_, inr (others, again, other))) =
      let same : others ≡ tokens = laws.one_reading bytes others tokens again reading in
      laws.one_stop bytes tokens e f stop (subst (λ (ts : List Token). FileStopsWith bytes ts f) same other)

  text-one : (n : ℕ) (bytes : List ℕ) (t u : Text) → IsText n bytes t → IsText n bytes u → t ≡ u
  text-one n bytes (Ok s) (Ok t) a b = ap (λ (tree : Tree). let text : Text = Ok tree in text) (tree-one bytes s t a b)
  text-one n bytes (Ok s) (Err f) a b = absurd (tree-never_stops bytes s b.0 a b.1)
  text-one n bytes (Err f) (Ok t) a b = absurd (tree-never_stops bytes t a.0 b a.1)
  text-one n bytes (Err f) (Err g) a b =
      let same : f ≡ g = a.2 ∙ ap (in_file n) (stop-one bytes a.0 b.0 a.1 b.1) ∙ sym b.2 in
      ap (λ (e : Fault). let text : Text = Err e in text) same

  texts-one : {n : ℕ} {files : Handed} {ts us : List Text} → AreTexts n files ts → AreTexts n files us → ts ≡ us
  texts-one none none = refl
  texts-one {n} (more {file} {text} a later) (more {text = other} b others) = rw (text-one n file.1 text other a b, texts-one later others) refl

  pub library-one : (source : List ℕ) (files : Handed) (one other : Library) → IsRead source files one → IsRead source files other → one ≡ other
  library-one source files one other a b = same one other (a.texts.names ∙ sym b.texts.names) (a.texts.texts.1 ∙ (rw (tree, texts) refl) ∙ sym b.texts.texts.1)
    where
      tokens : b.tokens ≡ a.tokens
      tokens = laws.one_reading source b.tokens a.tokens b.reading a.reading

      tree : a.tree ≡ b.tree
      tree = laws.one_source source a.tokens a.tree b.tree a.spelled (subst (λ (ts : List Token). Spells source ts b.tree) tokens b.spelled)

      texts : a.texts.texts.0 ≡ b.texts.texts.0
      texts = texts-one a.texts.texts.2 b.texts.texts.2

      of : List (List ℕ) → List Text → Library
      of names held = record { names = names; texts = held }

      same : (l m : Library) → l.names ≡ m.names → l.texts ≡ m.texts → l ≡ m
      same l m named held = ap (λ (ns : List (List ℕ)). of ns l.texts) named ∙ ap (λ (ts : List Text). of m.names ts) held

  -- a source that has no tree isn't read
  pub read-has_tree : (source : List ℕ) (files : Handed) (library : Library) (e : Fault) → IsRead source files library → HasNoTree source e → ⊥
  read-has_tree source files library e a (inl long) = let short = a.short in let past = long.0 in omega arith
  read-has_tree source files library e a (inr (short, inl stop)) = laws.stopped source a.tokens e stop a.reading
  read-has_tree source files library e a (inr (short, inr (tokens, reading, stop))) =
      let same : tokens ≡ a.tokens = laws.one_reading source tokens a.tokens reading a.reading in
      laws.source_stopped source a.tokens e a.tree (subst (λ (ts : List Token). TokensStop source ts e) same stop) a.spelled
