-- What the proof of the stages needs of both. Own.
use Rattle.std.proofs.Common.{◌≡◌, ◌≢◌, ◌≤◌, ◌⊎◌, ℕ, inl, inr, Option, refl, subst, arith}
use Rattle.base_devices.specs.Content.{Content}
use Rattle.base_model.specs.Steps.{Reading}
use Rattle.base_model.specs.Text.{Text}
use Rattle.archive_store.specs.Still.{still_on}
use Rattle.cmd_archive_get.specs.Getting.{ChangesPath, IsServed, served_path}
use Rattle.cmd_archive_get.specs.Texts.{get_status}
use Rattle.cmd_archive_get.proofs.Refusals.{get_within}
use Rattle.cmd_archive_get_async.specs.Getting.{IsServedBySum}
use Rattle.cmd_trait.specs.Meaning.{IsLawful, apart, quiet_talk}
use Rattle.run_archive_get.specs.Getting.{get_meaning}
use Rattle.run_archive_get.specs.GettingThrough.{through_meaning}

-- a status of a refusal is none of a command that ended with findings
none_found : (n : ℕ) → (n ≤ 46) ⊎ (n ≡ 70) → n ≢ 65
none_found n (inl low) = λ e. absurd (omega (arith, low, e))
none_found n (inr high) = λ e. absurd (omega (arith, high, e))

-- and none of a server's answer that is refused, except that of a file that is too long
of_no_server : (n : ℕ) → (n ≤ 46) ⊎ (n ≡ 70) → (n ≤ 46) ⊎ (52 ≤ n)
of_no_server n (inl low) = inl low
of_no_server n (inr high) = inr (omega (arith, high))

-- the laws of archive-get, from the repository and through the spool
pub get_lawful : (name path : Text) → IsLawful (get_meaning name path)
get_lawful name path = record {
  some = λ p old new same. tt;
  healed = λ p old new repo heals P h. h;
  more = λ p old new failed others to fault h. h;
  closes_more = λ p old new repo failed others to fault h. tt;
  arguments_closes = λ p old failed fault h. tt;
  repo_none = λ p least b k still. still;
  repo_on = λ p least b c k still h. still_on b c k still h;
  folder_none = λ p old. record { known = λ some. some; others = λ q x y. refl; whole = inl refl };
  folder_on = λ p old repo nodes same h. subst (λ (r : Option Content). ChangesPath (served_path p.data_folder path)
      (IsServed p.stanza p.data_folder name path r old.nodes) old.nodes nodes) same h;
  others_none = λ p others. refl;
  turned_none = λ p old new n nodes same. nodes;
  turned_on = λ p old new repo n same h. h;
  over = λ fault. (get_within fault).0;
  not_found = λ fault. none_found (get_status fault) (get_within fault).1;
  early = λ fault h. refl;
  no_control = λ off. absurd (apart off);
  no_spool = λ off. refl;
  talk = λ p old new failed fault is same closes. quiet_talk old new failed (get_status fault)
      (of_no_server (get_status fault) (get_within fault).1) is same;
  there = λ p old new known turns P on. (Reading, refl, on Reading refl);
  through = λ is p old new. tt;
  opens_only = λ off. absurd (apart off);
  lasts_alone = λ off p nodes repo now_nodes outcome. absurd (apart off);
  acknowledges_on = λ p b c k read h. h;
}

-- of archive-get through the spool
pub through_lawful : (name path spool : Text) (queue : ℕ) → IsLawful (through_meaning name path spool queue)
through_lawful name path spool queue = record {
  some = λ p old new same. tt;
  healed = λ p old new repo heals P h. h;
  more = λ p old new failed others to fault h. h;
  closes_more = λ p old new repo failed others to fault h. tt;
  arguments_closes = λ p old failed fault h. tt;
  repo_none = λ p least b k still. still;
  repo_on = λ p least b c k still h. still_on b c k still h;
  folder_none = λ p old. record { known = λ some. some; others = λ q x y. refl; whole = inl refl };
  folder_on = λ p old repo nodes same h. subst (λ (r : Option Content). ChangesPath (served_path p.data_folder path)
      (IsServedBySum p.stanza p.data_folder name path r old.nodes) old.nodes nodes) same h;
  others_none = λ p others. record { account = refl; turns = refl; started = inl refl; later = omega arith };
  turned_none = λ p old new n nodes same. nodes;
  turned_on = λ p old new repo n same h. h;
  over = λ fault. (get_within fault).0;
  not_found = λ fault. none_found (get_status fault) (get_within fault).1;
  early = λ fault h. refl;
  no_control = λ off. absurd (apart off);
  no_spool = λ off. absurd (apart off);
  talk = λ p old new failed fault is same closes. quiet_talk old new failed (get_status fault)
      (of_no_server (get_status fault) (get_within fault).1) is same;
  there = λ p old new known turns P on. (Reading, refl, on Reading refl);
  through = λ is p old new. tt;
  opens_only = λ off. absurd (apart off);
  lasts_alone = λ off p nodes repo now_nodes outcome. absurd (apart off);
  acknowledges_on = λ p b c k read h. h;
}
