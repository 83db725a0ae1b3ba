use Rattle.std.proofs.Common.{inl, refl, ap, ◌∙◌}
use Rattle.oct_bt.specs.DataClasses.{data_classes}
use Rattle.oct_export.specs.BoxTexts.{scene_text}
use Rattle.oct_tree.specs.Classes.{classes_in}
use Rattle.oct_export.proofs.Same.{same_scene}
use Rattle.oct_file_tasks.proofs.Ends.{cut_none}
use Rattle.oct_io.specs.declared.status.Status.TheVariants.{Done}
use Rattle.oct_file_tasks.proofs.OverFile.{reply_ends}
use Rattle.oct_file_tasks.proofs.Replies.{some_scene, scene_told, scene_refused}
use Rattle.oct_file_tasks.proofs.grids.draw_boxes.Goals as goal

pub returns-in_default-clause-ends : goal.returns-in_default-clause-ends
returns-in_default-clause-ends g c = cut_none _ _ (some_scene c.args.file.now)

pub returns-then-count-gt-MOST_BOXES-clause-ends : goal.returns-then-count-gt-MOST_BOXES-clause-ends
returns-then-count-gt-MOST_BOXES-clause-ends g c =
    rw (scene_refused (classes_in c.in-Ok.tree) c.args.file.now _ c.in-Ok.ensures.classes
    c.box_count-count.ensures c.if-count-gt-MOST_BOXES.true) c.send_refusal.ensures.ends

pub returns-clause-ends : goal.returns-clause-ends
returns-clause-ends g c =
    rw (scene_told (classes_in c.in-Ok.tree) c.args.file.now _ c.in-Ok.ensures.classes
    c.box_count-count.ensures c.if-count-gt-MOST_BOXES.false)
    (reply_ends c.vrml.result _ (scene_text c.in-Ok.tree.res (classes_in c.in-Ok.tree)) Done _ _ _
    (inl refl)
    (ap (λ edge. scene_text edge (classes_in c.in-Ok.tree)) c.in-Ok.ensures.res
    ∙ same_scene (classes_in c.in-Ok.tree) (data_classes c.args.file.now.codes) c.args.file.now.res
    c.in-Ok.ensures.classes)
    refl c.status_written.ensures c.vrml.ensures.written c.vrml.ensures.cut)
