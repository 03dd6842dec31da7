-- Calls whose names are all of one stanza keep to it.
use Rattle.std.proofs.Common.{◌≡◌, inl, inr, Bool, true, false, ◌∷◌, codes, sym, ◌∙◌, append_assoc}
use Rattle.std.specs.Prelude.{IsTrue}
use Rattle.base_devices.specs.Content.{Name, is_below}
use Rattle.base_devices.specs.Moments.{View}
use Rattle.base_devices.specs.Crash.{IsTemporary}
use Rattle.base_devices.proofs.Steps.{goes_wide}
use Rattle.base_disk.specs.Store.{ChangesOnly}
use Rattle.base_model.specs.Text.{Text}
use Rattle.base_model.specs.Names.{is_of_stanza, archive_folder, backup_folder, archive_info, backup_info}
use Rattle.base_model.specs.Log.{Pair}
use Rattle.base_model.proofs.Below.{fixed_of}
use Rattle.repo_pair.specs.Member.{IsOfPair}
use Rattle.repo_stanza.specs.Owned.{IsOfPairs}
use Rattle.archive_lookup.specs.Stored.{ChangesArchive}
use Rattle.archive_store.specs.Still.{IsStill}
use Rattle.base_crash_lists.specs.Beside.{StaysBeside}
use Rattle.base_crash_lists.proofs.Named.{below_archive, in_archive, in_backup}
use Rattle.base_crash_lists.proofs.Stays.{rests_beside}

both_ways : {X : Type 0} (b : Bool) → b ≡ true → b ≡ false → X
both_ways b is out = let u : ◌≡◌ {A = Bool} true false = sym is ∙ out in cc

pub only_beside : (stanza : Text) (these : Name → Type 0) (a b : View) → ((n : Name) → these n → is_of_stanza stanza n ≡ true) → ChangesOnly these a b → StaysBeside stanza a b
only_beside stanza these a b of p = record {
  now = λ n out. p.now n (λ h. both_ways (is_of_stanza stanza n) (of n h) out);
  time = goes_wide (λ n _. these n) (λ n _. is_of_stanza stanza n ≡ true) (λ n. these n × IsTemporary n) (λ n. is_of_stanza stanza n ≡ true) a b (λ n v h. of n h) (λ n h. of n h.0) p.time;
}

archive_of : (stanza n : Text) → IsOfPair (archive_info stanza) n → is_of_stanza stanza n ≡ true
archive_of stanza n (inl e) = in_archive stanza n (codes "archive.info.pgbackrest.tmp") (e ∙ append_assoc (archive_folder stanza) (47 ∷ codes "archive.info") (codes ".pgbackrest.tmp"))
archive_of stanza n (inr (inl e)) = fixed_of stanza n (Pair (inl e))
archive_of stanza n (inr (inr e)) = fixed_of stanza n (Pair (inr (inl e)))

backup_of : (stanza n : Text) → IsOfPair (backup_info stanza) n → is_of_stanza stanza n ≡ true
backup_of stanza n (inl e) = in_backup stanza n (codes "backup.info.pgbackrest.tmp") (e ∙ append_assoc (backup_folder stanza) (47 ∷ codes "backup.info") (codes ".pgbackrest.tmp"))
backup_of stanza n (inr (inl e)) = fixed_of stanza n (Pair (inr (inr (inl e))))
backup_of stanza n (inr (inr e)) = fixed_of stanza n (Pair (inr (inr (inr e))))

pairs_of : (stanza n : Text) → IsOfPairs stanza n → is_of_stanza stanza n ≡ true
pairs_of stanza n (inl h) = archive_of stanza n h
pairs_of stanza n (inr h) = backup_of stanza n h

module _ (stanza : Text) (a b : View) where
  pub archive_pair_beside : ChangesOnly (IsOfPair (archive_info stanza)) a b → StaysBeside stanza a b
  archive_pair_beside p = only_beside stanza (IsOfPair (archive_info stanza)) a b (archive_of stanza) p

  pub pairs_beside : ChangesOnly (IsOfPairs stanza) a b → StaysBeside stanza a b
  pairs_beside p = only_beside stanza (IsOfPairs stanza) a b (pairs_of stanza) p

  pub archive_beside : ChangesArchive stanza a b → StaysBeside stanza a b
  archive_beside p = only_beside stanza (λ n. IsTrue (is_below (archive_folder stanza) n)) a b (below_archive stanza) p

  pub still_beside : IsStill a b → StaysBeside stanza a b
  still_beside p = rests_beside stanza a b p.time p.now
