-- What a disk represents as a command's own part begins.
use Rattle.std.proofs.Common.{◌≡◌, ◌≢◌, inl, inr, Option, Some, None, refl, sym, subst, ◌∙◌}
use Rattle.std.specs.Prelude.{IsSome}
use Rattle.base_devices.specs.Content.{Name, Content}
use Rattle.base_devices.specs.Crash.{IsTemporary}
use Rattle.base_model.specs.InfoFiles.{IsArchiveText}
use Rattle.base_model.specs.Names.{archive_info, backup_info, copy_of}
use Rattle.base_model.specs.Pair.{PairIs}
use Rattle.base_model.specs.Represents.{Represents, archive_value}
use Rattle.base_model.specs.Repository.{Repository}
use Rattle.base_model.specs.Text.{Text}
use Rattle.base_model.specs.Values.{ArchiveInfo}
use Rattle.base_model.proofs.Healed.{in_backups}
use Rattle.base_model.proofs.PushDone.{stanza_of}
use Rattle.base_model.proofs.Temporary.{pair_lasts}
use Rattle.repo_info.proofs.OneArchive.{one_archive_pair}
use Rattle.cmd_types.specs.declared.stages.plan.Pairs.{Pairs}
use Rattle.cmd_types.specs.declared.stages.plan.Pairs.TheVariants.{Unread, ReadArchive, HealArchive, ReadBoth}
use Rattle.cmd_types.specs.Plans.{Heals, HealsArchive}
use Rattle.program_crashes.proofs.Healed.{healed_stanza}

module _ (stanza : Text) (f : Content) (r : Repository) (represents : Represents stanza f r) where
  -- what it held, with the archive pair healed
  healed_now : (new : Option Content) → HealsArchive stanza (Some f) new → (g : Content) × (new ≡ Some g) × Represents stanza g r
  healed_now None heals =
      let e : ◌≡◌ {A = Option (Option Text)} None (Some (f (backup_info stanza))) = heals.others (backup_info stanza)
      (in_backups (backup_info stanza) (archive_info stanza) refl refl) (in_backups (backup_info stanza) (copy_of (archive_info stanza)) refl refl) (pair_lasts stanza (backup_info stanza) (inr (inr (inl refl)))) in
      cc
  healed_now (Some g) heals =
      let x = stanza_of stanza f heals.value r heals.was represents in
      let here = subst (Represents stanza f) x.1 represents in
      let value : heals.value ≡ archive_value x.0 = one_archive_pair f (archive_info stanza) heals.value (archive_value x.0) heals.was here.archive_pair in
      (g, refl, subst (Represents stanza g) (sym x.1) (healed_stanza stanza f g same x.0 here (subst (λ (v : ArchiveInfo). PairIs IsArchiveText g (archive_info stanza) v) value heals.is)))
    where
      same : (n : Name) → n ≢ archive_info stanza → n ≢ copy_of (archive_info stanza) → ¬ IsTemporary n → g n ≡ f n
      same n main copy lasting = let e : ◌≡◌ {A = Option (Option Text)} (Some (g n)) (Some (f n)) = heals.others n main copy lasting in cc

  as_it_was : (new : Option Content) → new ≡ Some f → (g : Content) × (new ≡ Some g) × Represents stanza g r
  as_it_was new same = (f, same, represents)

  -- whatever was done with the pairs before
  pub begun_as : (pairs : Pairs) (old new : Option Content) → old ≡ Some f → Heals pairs stanza old new → (g : Content) × (new ≡ Some g) × Represents stanza g r
  begun_as HealArchive old new is heals = healed_now new (subst (λ (o : Option Content). IsSome o → HealsArchive stanza o new) is heals refl)
  begun_as Unread old new is heals = as_it_was new (heals ∙ is)
  begun_as ReadArchive old new is heals = as_it_was new (heals ∙ is)
  begun_as ReadBoth old new is heals = as_it_was new (heals ∙ is)
