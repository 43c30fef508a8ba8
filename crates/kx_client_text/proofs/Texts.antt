-- The text that is written is that of the tables that the image of a source shows.
use Rattle.std.proofs.Common.{◌≡◌, ◌∙◌, ℕ, List, ap, subst, sym}
use Rattle.ks_core.specs.Table.{KeysymTable}
use Rattle.kx_clients.specs.LeavesOut.{LeavesOut}
use Rattle.kx_clients.specs.LeftOut.{LeftOut}
use Rattle.kx_image.proofs.Refused.{one_content}
use Rattle.kx_image.specs.Image.{IsImage}
use Rattle.kx_include.specs.Source.{Handed}
use Rattle.kx_tables.specs.Content.{Content}
use Rattle.kx_tool.specs.Compiled.{IsWritten}
use Rattle.kx_client_text.specs.ClientText.{HasText}
use Rattle.kx_client_text.specs.Written.{client_printed}

pub has_text : (source : List ℕ) (files : Handed) (names : KeysymTable) (image slice text : List ℕ) (left : LeftOut) → slice ≡ image → (content : Content) × IsWritten source files names content image → LeavesOut source files names left → (content : Content) × (IsImage content slice × (text ≡ client_printed content left)) → HasText source files names image left text
has_text source files names image slice text left is written leaves told =
    let shown : IsImage told.0 image = subst (λ bytes. IsImage told.0 bytes) is told.1.0 in
    record {
      content = written.0;
      image = written.1;
      leaves = leaves;
      written = told.1.1 ∙ ap (λ content. client_printed content left) (sym (one_content image written.0 told.0 written.1.image shown));
    }
