-- Tokens that are passed over by their bytes, without a list of them: whatever tokens the rest of a text is read as, the
-- bytes before it are read too, and the tokens that these are read as spell a value.
use Rattle.std.specs.Prelude.{ℕ, Bool, false, true, [], ◌∷◌, ◌||◌, ◌==◌, List, ◌++◌, ◌-◌, ◌≡◌, length, Option}
use Rattle.kx_lex.specs.Pieces.{piece}
use Rattle.kx_lex.specs.Production.{Production, one}
use Rattle.kx_lex.specs.Reading.{Reads, token_of}
use Rattle.kx_lex.specs.declared.keyword.Keyword.{Keyword}
use Rattle.kx_lex.specs.declared.scan.Piece.TheVariants.{Gap, Lexeme}
use Rattle.kx_lex.specs.declared.token.Token.{Token}
use Rattle.kx_lex.specs.declared.token.TokenKind.TheVariants.{Word}

-- bytes that end a text
pub record Ends (text bs : List ℕ) : Type 0 where
  pub before : List ℕ
  pub bytes : text ≡ before ++ bs

-- the end of a text is read as these tokens
abbrev pub ReadsEnd : List ℕ → List ℕ → List Token → Type 0
ReadsEnd text bs ts = Reads (length text - length bs) bs ts

-- only blanks and comments stand before the rest, so that both are read as the same tokens
pub record Skips (bs rest : List ℕ) : Type 0 where
  pub ends : Ends bs rest
  pub reads : (text : List ℕ) (ts : List Token) → Ends text bs → ReadsEnd text rest ts → ReadsEnd text bs ts
  pub leaves : (text : List ℕ) (ts : List Token) → Ends text bs → ReadsEnd text bs ts → ReadsEnd text rest ts

-- neither blanks nor a comment stand at the front
abbrev pub IsAtToken : List ℕ → Type 0
IsAtToken bs = (n : ℕ) → piece bs ≡ Gap n → ⊥

-- no word stands at the front
abbrev pub IsNoWord : List ℕ → Type 0
IsNoWord bs = (keyword : Option Keyword) (n : ℕ) → piece bs ≡ Lexeme (Word keyword) n → ⊥

-- whatever the rest is read as, the bytes before it are read too
pub record Lexes (bs rest : List ℕ) : Type 0 where
  pub ends : Ends bs rest
  pub read : (text : List ℕ) (ts : List Token) → Ends text bs → ReadsEnd text rest ts → (us : List Token) × ReadsEnd text bs us

-- and whatever the bytes are read as begins with tokens that spell a value, and goes on as the rest is read
pub record Passes {A : Type 0} (p : List ℕ → Production A) (bs rest : List ℕ) : Type 0 where
  pub lexes : Lexes bs rest
  pub spelled : (text : List ℕ) (us : List Token) → Ends text bs → ReadsEnd text bs us → (x : A) × (ts : List Token) × (p text).spells us x ts × ReadsEnd text rest ts

-- the same in one text, where something is known of the value
pub record PassesAs {A : Type 0} (text : List ℕ) (p : Production A) (Is : A → Type 0) (bs rest : List ℕ) : Type 0 where
  pub lexes : Lexes bs rest
  pub spelled : (us : List Token) → ReadsEnd text bs us → (x : A) × (ts : List Token) × p.spells us x ts × ReadsEnd text rest ts × Is x

-- and where the value is this one, whatever the text
abbrev pub PassesTo : {A : Type 0} → (List ℕ → Production A) → A → List ℕ → List ℕ → Type 0
PassesTo p x bs rest = (text : List ℕ) → Ends text bs → PassesAs text (p text) (λ y. y ≡ x) bs rest

-- whatever the bytes are read as begins with a word that spells this keyword, or none, and goes on as the rest is read
pub record PassesWord (keyword : Option Keyword) (bs rest : List ℕ) : Type 0 where
  pub lexes : Lexes bs rest
  pub begins : (text : List ℕ) (us : List Token) → Ends text bs → ReadsEnd text bs us → (n : ℕ) × (ts : List Token) × (us ≡ token_of (Word keyword) (length text - length bs) n ∷ ts) × ReadsEnd text rest ts

-- a token of any kind
abbrev pub token : List ℕ → Production Token
token text = one text (λ t. true)

-- a mark that is a token wherever it stands: { } [ ] ( ) ; , . = + - !
abbrev pub is_single : ℕ → Bool
is_single b = (b == 123) || ((b == 125) || ((b == 91) || ((b == 93) || ((b == 40) || ((b == 41) || ((b == 59) || ((b == 44) || ((b == 46) || ((b == 61) || ((b == 43) || ((b == 45) || (b == 33))))))))))))

abbrev pub front_byte : ℕ → List ℕ → Bool
front_byte byte [] = false
front_byte byte (b ∷ bs) = b == byte
