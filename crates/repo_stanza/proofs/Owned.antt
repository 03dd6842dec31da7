-- Of all names only those of the stanza's pairs change.
use Rattle.std.proofs.Common.{inl, inr}
use Rattle.base_devices.specs.Moments.{View}
use Rattle.base_devices.specs.States.{DiskState, OnlyReads}
use Rattle.base_disk.specs.Store.{ChangesOnly}
use Rattle.base_disk.proofs.Changes.{only_rests, only_on, only_wide}
use Rattle.base_model.specs.Text.{Text}
use Rattle.base_model.specs.Names.{archive_info, backup_info}
use Rattle.repo_pair.specs.Member.{IsOfPair}
use Rattle.repo_stanza.specs.Owned.{IsOfPairs}

module _ (stanza : Text) where
  pub archive_only : (a b : View) → ChangesOnly (IsOfPair (archive_info stanza)) a b → ChangesOnly (IsOfPairs stanza) a b
  archive_only a b p = only_wide (IsOfPair (archive_info stanza)) (IsOfPairs stanza) a b (λ n h. inl h) p

  pub backup_only : (a b : View) → ChangesOnly (IsOfPair (backup_info stanza)) a b → ChangesOnly (IsOfPairs stanza) a b
  backup_only a b p = only_wide (IsOfPair (backup_info stanza)) (IsOfPairs stanza) a b (λ n h. inr h) p

  pub archive_then : (a b c : View) → ChangesOnly (IsOfPair (archive_info stanza)) a b → ChangesOnly (IsOfPair (backup_info stanza)) b c → ChangesOnly (IsOfPairs stanza) a c
  archive_then a b c p q = only_on (IsOfPairs stanza) a b c (archive_only a b p) (backup_only b c q)

  pub backup_then : (a b c : View) → ChangesOnly (IsOfPair (backup_info stanza)) a b → ChangesOnly (IsOfPair (archive_info stanza)) b c → ChangesOnly (IsOfPairs stanza) a c
  backup_then a b c p q = only_on (IsOfPairs stanza) a b c (backup_only a b p) (archive_only b c q)

  pub looked_pairs : (a b : DiskState) → OnlyReads a b → ChangesOnly (IsOfPairs stanza) a.view b.view
  looked_pairs a b looks = only_rests (IsOfPairs stanza) a.view b.view looks.time looks.now

  pub pairs_on : (a b : DiskState) (c : View) → OnlyReads a b → ChangesOnly (IsOfPairs stanza) b.view c → ChangesOnly (IsOfPairs stanza) a.view c
  pairs_on a b c looks p = only_on (IsOfPairs stanza) a.view b.view c (looked_pairs a b looks) p
