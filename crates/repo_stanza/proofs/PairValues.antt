-- What the members of two pairs hold as they are mended one after the other.
use Rattle.std.proofs.Common.{◌≡◌, ◌≢◌, inl, inr, List, [], ◌∷◌, Option, Some, None, refl, ◌∙◌}
use Rattle.std.specs.Prelude.{IfSome, IsSome}
use Rattle.std.specs.List.{AllByRecursion}
use Rattle.base_devices.specs.Content.{Content, put}
use Rattle.base_devices.specs.Crash.{IsTemporary, NowChanges, Write, SomeOf}
use Rattle.base_devices.proofs.Crashes.{unknown}
use Rattle.base_model.specs.Text.{Text}
use Rattle.base_model.specs.Names.{archive_info, backup_info, copy_of}
use Rattle.base_model.specs.Create.{member_writes}
use Rattle.base_model.proofs.Created.{put_other}
use Rattle.base_model.proofs.NameLemmas.{pairs_apart, archive_backup_copy_apart, archive_copy_backup_apart, copies_apart}
use Rattle.base_model.proofs.Temporary.{pair_lasts}
use Rattle.repo_stanza.specs.HealingPair.{HoldBoth, HaveTexts}

-- writes at other names
some_else : (ws : List Write) (q : Text) → ¬ IsTemporary q → AllByRecursion (λ w. q ≢ w.0) ws → (f g : Content) → SomeOf ws f g → g q ≡ f q
some_else [] q lasts all f g a = a.same q lasts
some_else (w ∷ ws) q lasts all f g (inl p) = some_else ws q lasts all.1 f g p
some_else (w ∷ ws) q lasts all f g (inr p) = some_else ws q lasts all.1 (put w.0 (Some w.1) f) g p ∙ put_other w.0 (Some w.1) f q all.0

pub both_hold : (stanza archive backup : Text) (mid new : Option Content) → IsSome mid → IfSome mid (HoldBoth (archive_info stanza) archive) → NowChanges (SomeOf (member_writes (backup_info stanza) backup)) mid new → IfSome new (HoldBoth (backup_info stanza) backup) → IfSome new (HaveTexts stanza archive backup)
both_hold stanza archive backup mid None some first goes second = tt
both_hold stanza archive backup None (Some g) some first goes second = absurd (unknown None refl some)
both_hold stanza archive backup (Some f) (Some g) some first goes second =
    let w = goes.goes f g refl refl in
    record {
      archive_pair = (
        some_else (member_writes (backup_info stanza) backup) (archive_info stanza) (pair_lasts stanza _ (inl refl)) (pairs_apart stanza, (archive_backup_copy_apart stanza, tt)) f g w ∙ first.0,
        some_else (member_writes (backup_info stanza) backup) (copy_of (archive_info stanza)) (pair_lasts stanza _ (inr (inl refl))) (archive_copy_backup_apart stanza, (copies_apart stanza, tt)) f g w ∙ first.1,
      );
      backup_pair = second;
    }
