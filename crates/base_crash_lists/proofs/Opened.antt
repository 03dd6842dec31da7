-- Disks that were opened anew, and empty ones.
use Rattle.std.proofs.Common.{◌≡◌, ⊎_elim, inl, ℕ, List, [], ◌∷◌, ◌++◌, Bool, true, false, Option, Some, None, refl, sym, ◌∙◌, ap}
use Rattle.base_text.specs.Sum.{sum_text}
use Rattle.base_devices.specs.Content.{Name, Content}
use Rattle.base_devices.specs.Moments.{View, IsImage}
use Rattle.base_devices.specs.Crash.{Leaves}
use Rattle.base_model.specs.Text.{Text}
use Rattle.base_model.specs.Names.{receipt_name}
use Rattle.base_model.specs.Repository.{Repository}
use Rattle.base_model.specs.Log.{Done, RepresentsAfter, KeepsRepository, KeepsSpool}
use Rattle.base_model.proofs.Frame.{represents_same}
use Rattle.base_model.proofs.Reopened.{IsReopened}
use Rattle.base_crash_lists.specs.Trace.{HasReceiptsOf, nothing}

module _ (f : Content) (v : View) (opened : IsReopened f v) where
  -- a crash now leaves what it was opened on
  only : (g : Content) → Leaves v v.moment g → (n : Name) → g n ≡ f n
  only g leaves n = ⊎_elim
      (λ (e : v.now ≡ Some g). let u : ◌≡◌ {A = Option Content} (Some f) (Some g) = sym opened.now ∙ e in let w : f ≡ g = cc in sym (ap (λ (h : Content). h n) w))
      (λ (i : IsImage v v.moment g). ⊎_elim (λ k. opened.kept n (g n) k) (λ l. let u : ◌≡◌ {A = Bool} false true = sym (opened.synced n) ∙ l.0 in cc) (i n)) leaves

  module _ (stanza : Text) (q : Repository) (log : List Done) where
    pub opened_repository : RepresentsAfter stanza q log f → KeepsRepository stanza q log v
    opened_repository s = record {
      fixed = λ n h. opened.synced n;
      places = λ g leaves n h. opened.synced n;
      represents = λ g leaves. record {
        repository = s.repository;
        reached = s.reached;
        sound = s.sound;
        represents = represents_same stanza f g (record { fixed = λ n h. only g leaves n; places = λ n h. only g leaves n }) s.repository s.represents;
      };
    }

    pub opened_spool : HasReceiptsOf stanza q log f → KeepsSpool stanza q log v
    opened_spool has = record {
      fixed = λ name fits. opened.synced (receipt_name stanza name);
      receipts = λ g leaves name sum fits receipt. has name sum fits (receipt.0, sym (only g leaves (receipt_name stanza name)) ∙ receipt.1);
    }

-- where nothing is, there is no stanza
pub empty_represents : (stanza : Text) → RepresentsAfter stanza None [] nothing
empty_represents stanza = record {
  repository = None;
  reached = refl;
  sound = tt;
  represents = record {
    archive_pair = (refl, refl);
    backup_pair = inl (refl, refl);
    archived = λ n file. refl;
  };
}

pub empty_receipts : (stanza : Text) → HasReceiptsOf stanza None [] nothing
empty_receipts stanza name sum fits receipt = let h : ◌≡◌ {A = Option (List ℕ)} None (Some (sum_text sum ++ 10 ∷ [])) = receipt.1 in cc
