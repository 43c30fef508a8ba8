-- What the text of a keymap that its clients read keeps of the keymap's source.
use Rattle.std.specs.Prelude.{◌≡◌, ◌≢◌, ◌⊎◌, ℕ, ◌<◌, List, []}
use Rattle.ks_core.specs.Table.{KeysymTable}
use Rattle.kx_basics.specs.declared.limits.TheConstants.{CODES}
use Rattle.kx_clients.specs.LeavesOut.{LeavesOut}
use Rattle.kx_clients.specs.LeftOut.{LeftOut, repeats}
use Rattle.kx_include.specs.Source.{Handed}
use Rattle.kx_lex.specs.declared.fault.Fault.{Fault}
use Rattle.kx_source.specs.Source.{HasFault}
use Rattle.kx_tables.specs.Content.{Content}
use Rattle.kx_tool.specs.Compiled.{IsWritten}
use Rattle.kx_client_text.specs.Written.{client_printed}

-- two images leave out the same aliases, names of indicators and virtual modifiers, and that the same keys repeat
pub record SayTheSame (one other : LeftOut) : Type 0 where
  pub aliases : one.aliases ≡ other.aliases
  pub indicators : one.indicators ≡ other.indicators
  pub modifiers : one.modifiers ≡ other.modifiers
  pub repeating : (code : ℕ) → code < CODES → repeats one code ≡ repeats other code

-- by itself a text is compiled to an image, which leaves the same out
pub record MeansTheSame (names : KeysymTable) (bytes : List ℕ) (left : LeftOut) (text : List ℕ) : Type 0 where
  pub again : Content
  pub image : IsWritten text [] names again bytes
  pub left_again : LeftOut
  pub leaves : LeavesOut text [] names left_again
  pub same : SayTheSame left left_again

-- by itself it is refused, is compiled to another image, or that image leaves something else out
pub record OtherImage (names : KeysymTable) (bytes text : List ℕ) : Type 0 where
  pub again : Content
  pub others : List ℕ
  pub image : IsWritten text [] names again others
  pub other : others ≢ bytes

pub record OtherLeft (names : KeysymTable) (left : LeftOut) (text : List ℕ) : Type 0 where
  pub left_again : LeftOut
  pub leaves : LeavesOut text [] names left_again
  pub other : SayTheSame left left_again → ⊥

pub record IsRefused (names : KeysymTable) (text : List ℕ) : Type 0 where
  pub fault : Fault
  pub has : HasFault text [] names fault

abbrev pub MeansOther : KeysymTable → List ℕ → LeftOut → List ℕ → Type 0
MeansOther names bytes left text = IsRefused names text ⊎ (OtherImage names bytes text ⊎ OtherLeft names left text)

-- `text` is what clients read of a source with this image, which leaves this out
pub record HasText (source : List ℕ) (files : Handed) (names : KeysymTable) (bytes : List ℕ) (left : LeftOut) (text : List ℕ) : Type 0 where
  pub content : Content
  pub image : IsWritten source files names content bytes
  pub leaves : LeavesOut source files names left
  pub written : text ≡ client_printed content left

-- a source's text, which means the same as the source
pub record IsClientText (source : List ℕ) (files : Handed) (names : KeysymTable) (text : List ℕ) : Type 0 where
  pub bytes : List ℕ
  pub left : LeftOut
  pub has : HasText source files names bytes left text
  pub same : MeansTheSame names bytes left text

-- a source whose text would mean anything else
pub record HasNoText (source : List ℕ) (files : Handed) (names : KeysymTable) : Type 0 where
  pub bytes : List ℕ
  pub left : LeftOut
  pub text : List ℕ
  pub has : HasText source files names bytes left text
  pub other : MeansOther names bytes left text
