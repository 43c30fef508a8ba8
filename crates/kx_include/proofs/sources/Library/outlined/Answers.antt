use Rattle.std.proofs.Common.{◌≡◌, ◌+◌, ◌<◌, ◌∙◌, [], ◌∷◌, ◌++◌, ℕ, List, Option, None, Some, Ok, length, length-append, map, ap, subst, refl, arith}
use Rattle.std.proofs.lemmas.List.{map-append}
use Rattle.std.specs.Borrow.{Bor}
use Rattle.std.specs.List.{slice_get}
use Rattle.std.specs.Option.{option_copied, option_map}
use Rattle.kx_include.specs.FileText.{FileText}
use Rattle.kx_include.specs.Library.{Text}
use Rattle.kx_include.specs.Texts.{IsText, none}
use Rattle.kx_include.proofs.Sketching.{sketch_one, sketched-on}
use Rattle.kx_include.proofs.TextLists.{read_more}
use Rattle.kx_include.proofs.sources.Library.outlined.Goals as goal

same-bytes : (bytes : List ℕ) (file : List ℕ × List ℕ) (o : Option (List ℕ × List ℕ)) → Some bytes ≡ option_map (λ (f : List ℕ × List ℕ). f.1) o → o ≡ Some file → bytes ≡ file.1
same-bytes bytes file o e found = let same : Some bytes ≡ Some file.1 = e ∙ ap (λ (p : Option (List ℕ × List ℕ)). option_map (λ (f : List ℕ × List ℕ). f.1) p) found in cc

pub files-init : goal.files-init
files-init c =
    let texts : c.push.new.self.items ≡ Ok c.args.tree ∷ [] = c.in_ok-push.ensures.items ∙ ap (λ (ts : List Text). ts ++ c.in_ok-of.field-0 ∷ []) c.new-texts.ensures.items ∙ ap (λ (t : Text). t ∷ []) c.in_ok-of.ensures in
    let outlines : c.push-2.new.self.items ≡ None ∷ [] = c.in_ok-push-2.ensures.items ∙ ap (λ (fs : List (Option (Bor FileText))). fs ++ None ∷ []) c.new-outlines.ensures.items in
    record {
      wholes = Ok c.args.tree ∷ [];
      read = ([], refl, none);
      sketches = sketch_one c.args.tree c.push.new.self.items (map option_copied c.push-2.new.self.items) texts (ap (λ (fs : List (Option (Bor FileText))). map option_copied fs) outlines);
      many = ap (λ (ts : List Text). length ts) texts;
    }

pub files-preserved : goal.files-preserved
files-preserved c =
    let within : c.files.place < length c.args.files.now = (let below = c.files-test.true in let len = c.len-place-end.ensures in omega arith) in
    let sketch = c.in_ok-text.ensures.sketch in
    let bytes : Some c.in-Some.file.now.bytes ≡ option_map (λ (f : List ℕ × List ℕ). f.1) (slice_get c.args.files.now c.files.place) = c.in-Some.ensures in
    let r = read_more c.files.place c.args.tree c.args.files.now c.files.invariant.wholes sketch.0 c.files.invariant.read within (λ file found. subst (λ (bs : List ℕ). IsText (c.files.place + 1) bs sketch.0) (same-bytes c.in-Some.file.now.bytes file (slice_get c.args.files.now c.files.place) bytes found) sketch.1) in
    let texts : c.push-in-files.new.self.items ≡ c.files.texts.items ++ c.in_ok-text.text ∷ [] = c.in_ok-push-3.ensures.items in
    let joined = map-append option_copied c.files.outlines.items (c.in_ok-text.outline ∷ []) in
    let outlines : map option_copied c.push-in-files-2.new.self.items ≡ map option_copied c.files.outlines.items ++ option_copied c.in_ok-text.outline ∷ [] = ap (λ (fs : List (Option (Bor FileText))). map option_copied fs) c.in_ok-push-4.ensures.items ∙ joined in
    record {
      wholes = c.files.invariant.wholes ++ sketch.0 ∷ [];
      read = r;
      sketches = sketched-on c.in_ok-text.text (option_copied c.in_ok-text.outline) sketch.0 texts outlines c.files.invariant.sketches sketch.2;
      many = ap (λ (ts : List Text). length ts) texts ∙ (let so_far = c.files.invariant.many in omega (arith, length-append c.files.texts.items (c.in_ok-text.text ∷ [])));
    }
