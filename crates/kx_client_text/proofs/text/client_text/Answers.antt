use Rattle.std.proofs.Common.{subst}
use Rattle.kx_client_text.specs.ClientText.{MeansOther, MeansTheSame}
use Rattle.kx_client_text.proofs.Texts.{has_text}
use Rattle.kx_client_text.proofs.text.client_text.Goals as goal

pub returns-in-true-clause-text : goal.returns-in-true-clause-text
returns-in-true-clause-text c =
    let names = c.args.names.now in
    let image = c.in_ok-image.image.items in
    let left = c.in_ok-left.left in
    let text = c.in_ok-text.text.items in
    record {
      bytes = image;
      left = left;
      has = has_text c.args.source.now c.args.files.now names image c.as_slice.result.now text left c.as_slice.ensures.value c.in_ok-image.ensures.image c.in_ok-left.ensures.left c.in_ok-text.ensures;
      same = subst (λ bytes. MeansTheSame names image left bytes) c.as_slice-2.ensures.value
          (subst (λ bytes. MeansTheSame names bytes left c.as_slice-2.result.now) c.as_slice-3.ensures.value (c.in_ok-means_the_same.ensures.same c.in-true.is));
    }

pub returns-clause-none : goal.returns-clause-none
returns-clause-none c = λ _.
    let names = c.args.names.now in
    let image = c.in_ok-image.image.items in
    let left = c.in_ok-left.left in
    let text = c.in_ok-text.text.items in
    record {
      bytes = image;
      left = left;
      text = text;
      has = has_text c.args.source.now c.args.files.now names image c.as_slice.result.now text left c.as_slice.ensures.value c.in_ok-image.ensures.image c.in_ok-left.ensures.left c.in_ok-text.ensures;
      other = subst (λ bytes. MeansOther names image left bytes) c.as_slice-2.ensures.value
          (subst (λ bytes. MeansOther names bytes left c.as_slice-2.result.now) c.as_slice-3.ensures.value (c.in_ok-means_the_same.ensures.other c.in-false.is));
    }
