use Rattle.std.proofs.Common.{refl, map, Some}
use Rattle.std.proofs.lemmas.Result.{IfOk-weaker, IfErr-weaker}
use Rattle.restore_make.specs.Recovered.{conf_path}
use Rattle.base_model.specs.Values.{file_entry_of}
use Rattle.restore_steps.proofs.Bare.{in_at}
use Rattle.restore_steps.proofs.Listing.{got, map_get}
use Rattle.restore_make.proofs.Failing.{fails_more}
use Rattle.worker_pool.proofs.Links.{left_all}
use Rattle.restore_make.proofs.Shows.{path_at}
use Rattle.restore_make.proofs.settings.read_conf.Goals as goal

pub read_file-requires-clause-entry : goal.read_file-requires-clause-entry
read_file-requires-clause-entry g c = c.requires.entries (file_entry_of c.index-files-place.result) (in_at file_entry_of c.args.files.now c.in-Some.place c.index-files-place.result c.in-Some.ensures.within c.index-files-place.is)

pub returns-in-Some-clause-conf : goal.returns-in-Some-clause-conf
returns-in-Some-clause-conf g c =
    let f = c.index-files-place.result in
    let es = map file_entry_of c.args.files.now in
    let e = file_entry_of f in
    let listed = in_at file_entry_of c.args.files.now c.in-Some.place f c.in-Some.ensures.within c.index-files-place.is in
    let here = map_get file_entry_of c.args.files.now c.in-Some.place f (got c.args.files.now c.in-Some.place f c.in-Some.ensures.within c.index-files-place.is) in
    IfOk-weaker c.read_file.result _ _
    (λ bytes h. (Some bytes.items, (e, listed, path_at es c.in-Some.place e conf_path c.in-Some.ensures.some here, h), refl))
    c.read_file.ensures.bytes

pub returns-in-Some-clause-fault : goal.returns-in-Some-clause-fault
returns-in-Some-clause-fault g c = λ f h.
    let e = file_entry_of c.index-files-place.result in
    let listed = in_at file_entry_of c.args.files.now c.in-Some.place c.index-files-place.result c.in-Some.ensures.within c.index-files-place.is in
    IfErr-weaker c.read_file.result _ _
    (λ x y. fails_more c.args.stanza.now c.args.own.now e (map file_entry_of c.args.files.now) (map g.L.Link.link_state c.args.pool.now.links.items) (map g.L.Link.link_state c.read_file.new.pool.links.items) c.args.pool.now.lost.items c.read_file.new.pool.lost.items f h x listed y)
    (c.read_file.ensures.fault f h)

pub returns-in-None-clause-left : goal.returns-in-None-clause-left
returns-in-None-clause-left g c = left_all (map g.L.Link.link_state c.args.pool.now.links.items) c.args.pool.now.lost.items c.requires.ready
