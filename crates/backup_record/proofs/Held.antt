-- What a backup's keepers hold is what ended.
use Rattle.std.proofs.Common.{◌≡◌, List, [], ◌∷◌, ◌++◌, length, map, drop, Option, refl, arith, option_map}
use Rattle.base_devices.specs.Content.{Name, Content, at}
use Rattle.base_model.specs.Text.{Text}
use Rattle.worker_protocol.specs.PartSinkState.{JobItems}
use Rattle.backup_sink.specs.declared.keeper.EndedItem.{EndedItem}
use Rattle.backup_sink.specs.Keeping.{Progress, dones, job_bytes, keeps}
use Rattle.backup_record.specs.Ends.{AreEnds, AreAllEnds}

dones_end : (es : List EndedItem) (b : Option Text) → AreEnds es (dones es b)
dones_end [] b = tt
dones_end (e ∷ es) b = (refl, refl, dones_end es (option_map (drop e.count) b))

-- the ends of a keeper's jobs
pub keeps_end : (names : List Name) (ps : List Progress) (now : Option Content) → length names ≡ length ps → AreAllEnds (map (λ (p : Progress). p.ended) ps) (keeps names ps now)
keeps_end [] [] now same = tt
keeps_end [] (p ∷ ps) now same = absurd (omega (arith, same))
keeps_end (n ∷ ns) [] now same = absurd (omega (arith, same))
keeps_end (n ∷ ns) (p ∷ ps) now same = (dones_end p.ended (job_bytes p (at n now)), keeps_end ns ps now (omega (arith, same)))

-- of two keepers, one after the other
pub ends_append : (a b : List (List EndedItem)) (ks ls : List JobItems) → AreAllEnds a ks → AreAllEnds b ls → AreAllEnds (a ++ b) (ks ++ ls)
ends_append [] b [] ls x y = y
ends_append [] b (k ∷ ks) ls x y = absurd x
ends_append (e ∷ es) b [] ls x y = absurd x
ends_append (e ∷ es) b (k ∷ ks) ls x y = (x.0, ends_append es b ks ls x.1 y)
