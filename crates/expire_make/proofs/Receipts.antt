-- An expiry keeps what drains have stored.
use Rattle.std.proofs.Common.{List, [], ◌∷◌, ◌++◌, Some, None, Bool, true, false, refl, map}
use Rattle.std.specs.Prelude.{filter, not}
use Rattle.std.specs.List.{flat_map}
use Rattle.base_devices.specs.Moments.{View}
use Rattle.base_model.specs.declared.wal.ArchiveName.{ArchiveName}
use Rattle.base_model.specs.Text.{Text}
use Rattle.base_model.specs.Repository.{Archived, Stanza, Repository}
use Rattle.base_model.specs.Steps.{Condemn, Forget, Expire, Retention, changed, after, all_of, expiry_moves, steps_of}
use Rattle.base_model.specs.Log.{Done, Reaches, IsDrained, KeepsSpool}
use Rattle.base_model.proofs.Done.{part_none}

module _ (name : ArchiveName) (sum : Text) where
  forgets_keep : (xs : List Archived) (s : Stanza) → IsDrained (Some s) name sum → IsDrained (after (Some s) (flat_map (λ g. g) (map (λ a. Forget a ∷ []) xs) ++ [])) name sum
  forgets_keep [] s drained = drained
  forgets_keep (x ∷ xs) s drained = forgets_keep xs (changed (Forget x) s) drained

  all_keep : (kept : Retention) (s : Stanza) → IsDrained (Some s) name sum → IsDrained (after (Some s) (all_of (expiry_moves kept s))) name sum
  all_keep kept s drained =
      let rest = changed (Condemn (kept.condemned s)) s in
      forgets_keep (filter (λ a. not (kept.needed rest a)) rest.archived) rest drained

  still_drained : (kept : Retention) (whole : Bool) (q : Repository) (log : List Done) (r : Repository) → Reaches q log r → IsDrained r name sum
      → (x : Repository) × Reaches q (record { command = Expire kept; acknowledged = whole } ∷ log) x × IsDrained x name sum
  still_drained kept whole q log None reached drained = absurd drained
  still_drained kept false q log (Some s) reached drained = (Some s, (Some s, reached, ([], refl, part_none (steps_of (Expire kept) (Some s)))), drained)
  still_drained kept true q log (Some s) reached drained = (
    after (Some s) (all_of (expiry_moves kept s)),
    (Some s, reached, (all_of (expiry_moves kept s), refl, refl)),
    all_keep kept s drained,
  )

-- the spool keeps the log with an expiry
pub expiry_spool : (stanza : Text) (kept : Retention) (whole : Bool) (q : Repository) (log : List Done) (v : View) → KeepsSpool stanza q log v → KeepsSpool stanza q (record { command = Expire kept; acknowledged = whole } ∷ log) v
expiry_spool stanza kept whole q log v keeps = record {
  fixed = keeps.fixed;
  receipts = λ f leaves name sum fits receipt. let x = keeps.receipts f leaves name sum fits receipt in still_drained name sum kept whole q log x.0 x.1 x.2;
}
