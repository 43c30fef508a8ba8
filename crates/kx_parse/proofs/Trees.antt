-- Tokens spell one tree at most: the one that is read of them.
use Rattle.std.proofs.Common.{ℕ, List, [], ◌≡◌, sym, ◌∙◌, subst}
use Rattle.kx_lex.specs.declared.token.Token.{Token}
use Rattle.kx_lex.specs.Parsing.{done}
use Rattle.kx_lex.proofs.Laws.{done-same}
use Rattle.kx_tree.specs.Sections.{source, file, Spells, SpellsFile}
use Rattle.kx_tree.specs.declared.tree.Tree.{Tree}
use Rattle.kx_parse.proofs.LawfulSections.{source-lawful, file-lawful}

source-rest : (text : List ℕ) (ts : List Token) (tree : Tree) (rest : List Token) → (source text).spells ts tree rest → rest ≡ []
unfolding source
source-rest text ts tree rest s = let end = s.3.3.3.3.3 in sym end.3.1 ∙ end.2.1

file-rest : (text : List ℕ) (ts : List Token) (tree : Tree) (rest : List Token) → (file text).spells ts tree rest → rest ≡ []
unfolding file
file-rest text ts tree rest s = let end = s.3 in sym end.3.1 ∙ end.2.1

-- nothing is left of what a source's tree is spelled by
pub Spells-from_read : (text : List ℕ) (ts : List Token) (tree : Tree) (rest : List Token) → (source text).read ts ≡ done tree rest → Spells text ts tree
Spells-from_read text ts tree rest e =
    let s = (source-lawful text).takes ts tree rest e in
    record { spelled = subst (λ (r : List Token). (source text).spells ts tree r) (source-rest text ts tree rest s) s }

pub SpellsFile-from_read : (text : List ℕ) (ts : List Token) (tree : Tree) (rest : List Token) → (file text).read ts ≡ done tree rest → SpellsFile text ts tree
SpellsFile-from_read text ts tree rest e =
    let s = (file-lawful text).takes ts tree rest e in
    record { spelled = subst (λ (r : List Token). (file text).spells ts tree r) (file-rest text ts tree rest s) s }

-- tokens that spell a tree are read as it
pub Spells-read : (text : List ℕ) (ts : List Token) (tree : Tree) → Spells text ts tree → (source text).read ts ≡ done tree []
Spells-read text ts tree s = (source-lawful text).again ts tree [] s.spelled

pub SpellsFile-read : (text : List ℕ) (ts : List Token) (tree : Tree) → SpellsFile text ts tree → (file text).read ts ≡ done tree []
SpellsFile-read text ts tree s = (file-lawful text).again ts tree [] s.spelled

-- Tokens spell one tree at most.
pub Spells-one : (text : List ℕ) (ts : List Token) (s t : Tree) → Spells text ts s → Spells text ts t → s ≡ t
Spells-one text ts s t a b = (done-same (sym (Spells-read text ts s a) ∙ Spells-read text ts t b)).0

pub SpellsFile-one : (text : List ℕ) (ts : List Token) (s t : Tree) → SpellsFile text ts s → SpellsFile text ts t → s ≡ t
SpellsFile-one text ts s t a b = (done-same (sym (SpellsFile-read text ts s a) ∙ SpellsFile-read text ts t b)).0
