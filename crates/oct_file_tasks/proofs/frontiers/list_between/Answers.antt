use Rattle.std.proofs.Common.{◌≡◌, length, refl, subst}
use Rattle.oct_bt.specs.DataClasses.{data_classes}
use Rattle.oct_tree.specs.Classes.{classes_in}
use Rattle.oct_file_tasks.proofs.Ends.{cut_none}
use Rattle.oct_io.specs.declared.status.Status.TheVariants.{Done}
use Rattle.oct_frontier.specs.Frontier.{frontier_between, IsRefused}
use Rattle.oct_frontier.specs.declared.fault.FrontierFault.{FrontierFault}
use Rattle.oct_file_tasks.specs.Frontiers.{listing}
use Rattle.oct_file_tasks.proofs.Replies.{some_list, some_listing, list_told, list_refused}
use Rattle.oct_file_tasks.proofs.frontiers.list_between.Goals as goal

pub returns-in_default-clause-ends : goal.returns-in_default-clause-ends
returns-in_default-clause-ends g c = cut_none _ _
    (some_list (frontier_between (data_classes c.args.file.now.codes) c.args.window.lo
    c.args.window.hi))

pub returns-in-Ok-frontier-clause-ends : goal.returns-in-Ok-frontier-clause-ends
returns-in-Ok-frontier-clause-ends g c =
    let exact : c.in-Ok-frontier.keys
    ≡ frontier_between (classes_in c.in-Ok.tree) c.args.window.lo c.args.window.hi =
    rw (c.lo.ensures, c.hi.ensures) at c.in-Ok-frontier.ensures.exact in
    rw (list_told (classes_in c.in-Ok.tree) (data_classes c.args.file.now.codes) c.args.window.lo
    c.args.window.hi c.as_slice.result.now c.in-Ok-frontier.keys c.in-Ok.ensures.classes
    c.as_slice.ensures exact c.in-Ok-frontier.ensures.few)
    (c.send.ensures.ends (record { text = listing c.as_slice.result.now; status = Done })
    c.listing_text.ensures (some_listing c.as_slice.result.now) refl)

pub returns-in-Err-TooManyFrontiers-clause-ends : goal.returns-in-Err-TooManyFrontiers-clause-ends
returns-in-Err-TooManyFrontiers-clause-ends g c =
    let many = subst (λ (fault : FrontierFault). IsRefused fault
    (length (frontier_between (classes_in c.in-Ok.tree) c.lo.result c.hi.result)) 1000000)
    c.in-Err-TooManyFrontiers.field-0-is c.in-Err-TooManyFrontiers.ensures.refused in
    rw (list_refused (classes_in c.in-Ok.tree) (data_classes c.args.file.now.codes)
    c.args.window.lo c.args.window.hi c.in-Ok.ensures.classes
    (rw (c.lo.ensures, c.hi.ensures) at many))
    c.send_refusal.ensures.ends

pub returns-clause-ends : goal.returns-clause-ends
returns-clause-ends g c = cut_none _ _
    (some_list (frontier_between (data_classes c.args.file.now.codes) c.args.window.lo
    c.args.window.hi))
