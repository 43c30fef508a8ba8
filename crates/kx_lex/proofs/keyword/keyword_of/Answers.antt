use Rattle.std.proofs.Common.{◌≡◌, [], ◌∷◌, sym, ap, rules}
use Rattle.kx_lex.specs.Keywords.{keyword_of, spellings}
use Rattle.kx_lex.proofs.keyword.keyword_of.Goals as goal

pub returns-then-eq : goal.returns-then-eq
unfolding spellings
returns-then-eq c =
    let key : c.args.word.now ≡ 107 ∷ 101 ∷ 121 ∷ [] = search rules in ap keyword_of (sym key)
