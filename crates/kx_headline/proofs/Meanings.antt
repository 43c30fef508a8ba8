-- A source means one content of tables at most.
use Rattle.std.proofs.Common.{ℕ, ◌≡◌, List, sym, ◌∙◌, ap, subst}
use Rattle.ks_core.specs.Table.{KeysymTable}
use Rattle.kx_builder.specs.IndicatorMaps.{with_indicator_maps}
use Rattle.kx_builder.specs.Placed.{content_of_resolved}
use Rattle.kx_headline.proofs.Names.{names-one}
use Rattle.kx_headline.proofs.Texts.{Laws, library-one}
use Rattle.kx_include.specs.Expansion.{body_of}
use Rattle.kx_include.specs.Library.{Library}
use Rattle.kx_include.specs.Source.{Handed}
use Rattle.kx_tree.specs.declared.tree.Kind.TheVariants.{Symbols}
use Rattle.kx_source.specs.Meaning.{indicators_in, resolved_in}
use Rattle.kx_source.specs.Source.{HoldsAll, Means}
use Rattle.kx_tables.specs.Content.{Content}

module _ (names : KeysymTable) where
  holds-one : (library : Library) (one other : Content) → HoldsAll names library one → HoldsAll names library other → one ≡ other
  holds-one library one other a b =
      let same : a.groups ≡ b.groups = names-one (body_of library Symbols) a.groups b.groups a.groups_are b.groups_are in
      a.content_is ∙ ap (λ groups. with_indicator_maps (content_of_resolved (resolved_in names library)) (indicators_in names library) groups) same ∙ sym b.content_is

  pub means-one : Laws → (source : List ℕ) (files : Handed) (one other : Content) → Means source files names one → Means source files names other → one ≡ other
  means-one laws source files one other a b =
      let same : b.library ≡ a.library = library-one laws source files b.library a.library b.read a.read in
      holds-one a.library one other a.holds (subst (λ library. HoldsAll names library other) same b.holds)
