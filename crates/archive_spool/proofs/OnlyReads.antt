-- What a look at the marks of a file shows.
use Rattle.std.proofs.Common.{◌≡◌, ◌↔◌, Bool, true, Option, Some, None, ap, ◌∙◌, sym}
use Rattle.std.specs.Prelude.{IfSome, IsTrue, string_bytes}
use Rattle.base_text.specs.Sum.{IsSum}
use Rattle.base_devices.specs.Content.{Content}
use Rattle.base_model.specs.declared.wal.ArchiveName.{ArchiveName}
use Rattle.base_model.specs.Text.{Text}
use Rattle.base_model.specs.Log.{HasReceipt}
use Rattle.archive_spool.specs.declared.spool_query.MarkNames.{MarkNames}
use Rattle.archive_spool.specs.Asking.{AreNamesOf}
use Rattle.archive_spool.specs.Marks.{receipt_text}

-- where the name of the receipt holds its text
pub done_by : (names : MarkNames) (sum : Text) → IsSum sum → (o : Option Content) (name text : Text) (b : Bool) → name ≡ string_bytes names.receipt → text ≡ receipt_text sum → b ≡ true
    → IfSome o (λ f. IsTrue b ↔ (f name ≡ Some text)) → IfSome o (λ f. (stanza : Text) (file : ArchiveName) → AreNamesOf stanza file names → HasReceipt stanza f file sum)
done_by names sum is None name text b name_is text_is on holds = tt
done_by names sum is (Some f) name text b name_is text_is on holds = λ stanza file of.
    (is, ap f (sym (name_is ∙ of.receipt)) ∙ holds.0 on ∙ ap (λ (t : Text). Some t) text_is)
