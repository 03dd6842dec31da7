-- What a crash leaves of the two pairs of a backup that was listed: what the disk holds.
use Rattle.std.proofs.Common.{◌≡◌, inl, inr, true, List, Option, Some, refl, sym, ◌∙◌, ap}
use Rattle.std.specs.Prelude.{IsSome}
use Rattle.base_devices.specs.Content.{Content}
use Rattle.base_devices.specs.Crash.{IsAlikeAt, Leaves}
use Rattle.base_devices.specs.Links.{LinkState}
use Rattle.base_devices.specs.Moments.{View}
use Rattle.base_model.specs.InfoFiles.{backup_sections}
use Rattle.base_model.specs.InfoText.{info_text}
use Rattle.repo_manifest.specs.Keeping.{manifest_text}
use Rattle.repo_pair.specs.Member.{IsMember}
use Rattle.backup_make.specs.declared.draft.Draft.{Draft}
use Rattle.backup_make.specs.Draft.{pair_of, main_of}
use Rattle.backup_make.specs.Made.{HasCopies, IsSyncedAt, MakesOf}
use Rattle.backup_make.specs.Online.{Online}

module _ (draft : Draft) (o : Option Online) (links : List LinkState) (b d : View) (makes : MakesOf draft o links true b d) (synced : IsSyncedAt (pair_of draft) (main_of draft) b) (some : IsSome b.now) where
  at_main : (g : Content) → Leaves d d.moment g → g (main_of draft) ≡ Some (info_text (backup_sections makes.list))
  at_main g leaves = let x = (makes.whole_way synced refl).comes some g leaves in x.2.info_is

  at_pair : (g : Content) → Leaves d d.moment g → g (pair_of draft) ≡ Some (manifest_text makes.manifest)
  at_pair g leaves = let x = (makes.whole_way synced refl).comes some g leaves in x.2.manifest_is

  at_copies : (g : Content) → Leaves d d.moment g → HasCopies (pair_of draft) (main_of draft) makes.manifest makes.list g
  at_copies g leaves = let x = (makes.copies synced refl).comes some g leaves in x.2

  pub list_lasts : IsAlikeAt (IsMember (main_of draft)) d
  list_lasts f g now leaves n (inl e) = ap g e ∙ at_main g leaves ∙ sym (at_main f (inl now)) ∙ ap f (sym e)
  list_lasts f g now leaves n (inr e) = ap g e ∙ (at_copies g leaves).info_is ∙ sym (at_copies f (inl now)).info_is ∙ ap f (sym e)

  pub manifest_lasts : IsAlikeAt (IsMember (pair_of draft)) d
  manifest_lasts f g now leaves n (inl e) = ap g e ∙ at_pair g leaves ∙ sym (at_pair f (inl now)) ∙ ap f (sym e)
  manifest_lasts f g now leaves n (inr e) = ap g e ∙ (at_copies g leaves).manifest_is ∙ sym (at_copies f (inl now)).manifest_is ∙ ap f (sym e)
