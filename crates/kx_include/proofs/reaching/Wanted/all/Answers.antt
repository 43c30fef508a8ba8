use Rattle.std.proofs.Common.{◌≡◌, ◌∙◌, ◌+◌, ◌<◌, ◌++◌, ◌∷◌, [], ℕ, Bool, true, false, List, Some, Vec, Global, get_or, length, map, replicate, sym, ap, subst, arith, length-append}
use Rattle.std.proofs.lemmas.List.{length-map, map-append}
use Rattle.std.specs.List.{slice_get}
use Rattle.kx_tree.specs.declared.tree.Section.{Section}
use Rattle.kx_include.specs.Held.{Flags, is_wanted}
use Rattle.kx_include.specs.Library.{sections_in}
use Rattle.kx_include.specs.declared.place.Place.{Place}
use Rattle.kx_include.proofs.Wanting.{all-all, all-more, all-true}
use Rattle.kx_include.proofs.reaching.Wanted.all.Goals as goal

pub texts-preserved : goal.texts-preserved
texts-preserved c =
    let added = c.in_ok-push.ensures.items in
    let flags = map (λ (t : Vec Bool Global). t.items) c.texts.texts.items in
    let joined : map (λ (t : Vec Bool Global). t.items) c.push.new.self.items ≡ flags ++ c.in_ok-vec.field-0.items ∷ [] = ap (λ (ts : List (Vec Bool Global)). map (λ (t : Vec Bool Global). t.items) ts) added ∙ map-append (λ (t : Vec Bool Global). t.items) c.texts.texts.items (c.in_ok-vec.field-0 ∷ []) in
    let many : length flags ≡ c.texts.file = length-map c.texts.texts.items (λ (t : Vec Bool Global). t.items) ∙ c.texts.invariant.many in
    let all : c.in_ok-vec.field-0.items ≡ replicate (length (sections_in c.args.library.now c.texts.file)) true = c.in_ok-vec.ensures.items_if_clones_equal (λ y e. e) ∙ ap (λ (n : ℕ). replicate n true) c.section_count.ensures in
    record {
      many = ap (λ (ts : List (Vec Bool Global)). length ts) added ∙ (let before = c.texts.invariant.many in omega (arith, length-append c.texts.texts.items (c.in_ok-vec.field-0 ∷ [])));
      all = subst (λ (fs : Flags). (place : Place) (s : Section) → place.file < c.texts.file + 1 → slice_get (sections_in c.args.library.now place.file) place.section ≡ Some s → is_wanted fs place ≡ true) (sym joined)
          (all-more c.args.library.now flags c.in_ok-vec.field-0.items c.texts.file many (λ n less. ap (λ (ws : List Bool). get_or ws n false) all ∙ all-true (length (sections_in c.args.library.now c.texts.file)) n less) c.texts.invariant.all);
    }

pub returns : goal.returns
returns c =
    let end = c.texts-test.false in
    let many = c.len-file-end.ensures.texts in
    all-all c.args.library.now (map (λ t. t.items) c.texts.texts.items) c.texts.file (omega (arith, end, many)) c.texts.invariant.all
