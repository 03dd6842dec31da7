-- Both members of the two pairs have their texts, once both pairs were saved.
use Rattle.std.proofs.Common.{◌≡◌, Bool, Option, Some, refl, sym, ◌∙◌, ap, subst}
use Rattle.std.specs.Prelude.{IsSome}
use Rattle.base_devices.specs.Content.{Name, Content, put}
use Rattle.base_devices.specs.Moments.{View}
use Rattle.base_devices.specs.Crash.{IsTemporary, Ends, AllOf, NowChanges}
use Rattle.base_devices.proofs.Nows.{known_as}
use Rattle.base_disk.proofs.Images.{put_same}
use Rattle.base_model.specs.Create.{member_writes}
use Rattle.base_model.specs.InfoFiles.{backup_sections}
use Rattle.base_model.specs.InfoText.{info_text}
use Rattle.base_model.specs.Names.{copy_of}
use Rattle.base_model.specs.Text.{Text}
use Rattle.base_model.specs.Values.{BackupInfo, Manifest}
use Rattle.repo_manifest.specs.Keeping.{manifest_text}
use Rattle.backup_sink.proofs.Made.{all_other}
use Rattle.backup_make.specs.Made.{AreApart, HasCopies}

-- the copy of a pair that was saved has its text
all_copy : (name text : Text) → ¬ IsTemporary (copy_of name) → (f g : Content) → AllOf (member_writes name text) f g → g (copy_of name) ≡ Some text
all_copy name text lasts f g all = all.same (copy_of name) lasts ∙ put_same (copy_of name) (Some text) (put name (Some text) f)

module _ (own : Name → Bool) (pair main : Name) (off : AreApart own pair main) (m : Manifest) (v : BackupInfo) (text : Text) (spelled : text ≡ info_text (backup_sections v)) where
  both : (f g h : Content) → AllOf (member_writes pair (manifest_text m)) f g → AllOf (member_writes main text) g h → HasCopies pair main m v h
  both f g h saved listed = record {
    manifest_is = all_other main text g h listed (copy_of pair) off.copy_lasts off.copy_apart.0 off.copy_apart.1 ∙ all_copy pair (manifest_text m) off.copy_lasts f g saved;
    info_is = all_copy main text off.main_copy_lasts g h listed ∙ ap (λ (t : Text). Some t) spelled;
  }

  -- in all that may be left
  pub copies_end : (b e d : View) → (IsSome b.now → IsSome e.now) → Ends (AllOf (member_writes pair (manifest_text m))) b e → Ends (AllOf (member_writes main text)) e d → Ends (λ f h. HasCopies pair main m v h) b d
  copies_end b e d known saved listed = record {
    comes = λ some h leaves.
        let x = listed.comes (known some) h leaves in
        let y = saved.comes some x.0 x.1 in
        (y.0, y.1, both y.0 x.0 h y.2 x.2);
  }

  -- and in what the disk holds
  pub copies_held : (b e d : Option Content) → NowChanges (AllOf (member_writes pair (manifest_text m))) b e → NowChanges (AllOf (member_writes main text)) e d → NowChanges (λ f h. HasCopies pair main m v h) b d
  copies_held b e d saved listed = record {
    known = λ some. listed.known (saved.known some);
    goes = λ f h is_f is_h.
        let g = known_as e (saved.known (subst (λ (o : Option Content). IsSome o) (sym is_f) refl)) in
        both f g.0 h (saved.goes f g.0 is_f g.1) (listed.goes g.0 h g.1 is_h);
  }
