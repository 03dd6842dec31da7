use Rattle.std.proofs.Common.{◌&&◌, not, refl, rules, ap, map, string_bytes}
use Rattle.std.proofs.lemmas.Result.{on_ok_weaker}
use Rattle.memory_devices.specs.Counts.{is_to_fail}
use Rattle.memory_devices.specs.Nodes.{nodes_at, is_file, is_folder, is_placed, takes_file, takes_folder, holds_nothing}
use Rattle.memory_devices.proofs.Bare.{bare_from, bare_holds}
use Rattle.memory_devices.proofs.Rooted.{placed_from}
use Rattle.memory_devices.proofs.TreeShows.{tried_proper, tried_on_proper, ok_proper, both_true, and_true, file_there, is_there, begun_file, begun_new, appended_file, removed_synced}
use Rattle.memory_devices.proofs.tree.MemDataFolderDataFolder.TheImpl.Goals as goal

pub make-tells : goal.make-tells
make-tells c =
    let f = nodes_at c.args.self.now.nodes in
    let path = c.args.folder.now in
    record {
      nodes = search rules;
      proper = λ placed. tried_on_proper (is_placed f path) (takes_folder (f path)) c.args.self.now.failing c.new.self.now.failing c.ensures.counts (placed_from f path placed);
      opened = ap (map string_bytes) c.ensures.opened;
      synced = λ _ _ _. refl;
      cause = c.ensures.cause;
    }

pub begin-tells : goal.begin-tells
begin-tells c =
    let f = nodes_at c.args.self.now.nodes in
    let path = c.args.path.now in
    record {
      nodes = begun_file c.result path f (nodes_at c.new.self.now.nodes) c.ensures.ok c.ensures.err;
      proper = λ placed. tried_on_proper (is_placed f path) (takes_file (f path)) c.args.self.now.failing c.new.self.now.failing c.ensures.counts (placed_from f path placed);
      opened = ap (map string_bytes) c.ensures.opened;
      synced = λ _ _ _. refl;
      cause = c.ensures.cause;
    }

pub begin_new-tells : goal.begin_new-tells
begin_new-tells c =
    let f = nodes_at c.args.self.now.nodes in
    let path = c.args.path.now in
    record {
      nodes = begun_new c.result path f (nodes_at c.new.self.now.nodes) c.ensures.known c.ensures.ok c.ensures.err;
      proper = λ placed. tried_proper (is_placed f path) c.args.self.now.failing c.new.self.now.failing c.ensures.counts (placed_from f path placed);
      opened = ap (map string_bytes) c.ensures.opened;
      synced = λ _ _ _. refl;
      cause = c.ensures.cause;
    }

pub append-tells : goal.append-tells
append-tells c =
    let f = nodes_at c.args.self.now.nodes in
    let path = c.args.path.now in
    record {
      nodes = appended_file c.result path c.args.bytes.now f (nodes_at c.new.self.now.nodes) c.ensures.ok c.ensures.err;
      there = on_ok_weaker c.result (file_there (f path)) (ok_proper (is_to_fail c.args.self.now.failing) (is_file (f path)) c.result c.ensures.fails);
      proper = λ there. tried_proper (is_file (f path)) c.args.self.now.failing c.new.self.now.failing c.ensures.counts (is_there (f path) there);
      opened = ap (map string_bytes) c.ensures.opened;
      synced = λ _ _ _. refl;
      cause = c.ensures.cause;
    }

pub set_time-tells : goal.set_time-tells
set_time-tells c =
    let f = nodes_at c.args.self.now.nodes in
    let path = c.args.path.now in
    record {
      nodes = search rules;
      there = on_ok_weaker c.result (file_there (f path)) (ok_proper (is_to_fail c.args.self.now.failing) (is_file (f path)) c.result c.ensures.fails);
      proper = λ there. tried_proper (is_file (f path)) c.args.self.now.failing c.new.self.now.failing c.ensures.counts (is_there (f path) there);
      opened = ap (map string_bytes) c.ensures.opened;
      synced = λ _ _ _. refl;
      cause = c.ensures.cause;
    }

pub rename-tells : goal.rename-tells
rename-tells c =
    let f = nodes_at c.args.self.now.nodes in
    let from = c.args.from.now in
    let to = c.args.to.now in
    let source = is_file (f from) in
    let placed = is_placed f to in
    let takes = not (is_folder (f to)) in
    record {
      nodes = search rules;
      there = on_ok_weaker c.result (λ all. file_there (f from) (both_true source placed (both_true (source && placed) takes all))) (ok_proper (is_to_fail c.args.self.now.failing) ((source && placed) && takes) c.result c.ensures.fails);
      proper = λ there is_in. tried_on_proper (source && placed) takes c.args.self.now.failing c.new.self.now.failing c.ensures.counts (and_true source placed (is_there (f from) there) (placed_from f to is_in));
      opened = ap (map string_bytes) c.ensures.opened;
      synced = λ _ _ _ _. refl;
      cause = c.ensures.cause;
    }

pub remove-tells : goal.remove-tells
remove-tells c =
    let m = c.args.self.now.nodes in
    let path = c.args.path.now in
    record {
      nodes = search rules;
      bare = on_ok_weaker c.result (bare_from m path) (ok_proper (is_to_fail c.args.self.now.failing) (holds_nothing path m) c.result c.ensures.fails);
      proper = λ bare. tried_proper (holds_nothing path m) c.args.self.now.failing c.new.self.now.failing c.ensures.counts (bare_holds m path bare);
      opened = ap (map string_bytes) c.ensures.opened;
      synced = λ _ _ _. refl;
      cause = c.ensures.cause;
    }

pub rename_synced-tells : goal.rename_synced-tells
rename_synced-tells c =
    let f = nodes_at c.args.self.now.nodes in
    let from = c.args.from.now in
    let to = c.args.to.now in
    let source = is_file (f from) in
    let placed = is_placed f to in
    let takes = not (is_folder (f to)) in
    record {
      nodes = search rules;
      there = on_ok_weaker c.result (λ all. file_there (f from) (both_true source placed (both_true (source && placed) takes all))) (ok_proper (is_to_fail c.args.self.now.failing) ((source && placed) && takes) c.result c.ensures.fails);
      source = on_ok_weaker c.result (λ _. refl) c.ensures.ok;
      target = on_ok_weaker c.result (λ _. refl) c.ensures.ok;
      proper = λ there is_in. tried_on_proper (source && placed) takes c.args.self.now.failing c.new.self.now.failing c.ensures.counts (and_true source placed (is_there (f from) there) (placed_from f to is_in));
      opened = ap (map string_bytes) c.ensures.opened;
      synced = λ _ _ _ _. refl;
      cause = c.ensures.cause;
    }

pub remove_synced-tells : goal.remove_synced-tells
remove_synced-tells c =
    let m = c.args.self.now.nodes in
    let path = c.args.path.now in
    record {
      nodes = removed_synced c.result path (nodes_at m) (nodes_at c.new.self.now.nodes) c.ensures.ok c.ensures.err;
      bare = on_ok_weaker c.result (bare_from m path) (ok_proper (is_to_fail c.args.self.now.failing) (holds_nothing path m) c.result c.ensures.fails);
      gone = on_ok_weaker c.result (λ _. refl) c.ensures.ok;
      proper = λ bare. tried_proper (holds_nothing path m) c.args.self.now.failing c.new.self.now.failing c.ensures.counts (bare_holds m path bare);
      opened = ap (map string_bytes) c.ensures.opened;
      synced = λ _ _ _. refl;
      cause = c.ensures.cause;
    }
