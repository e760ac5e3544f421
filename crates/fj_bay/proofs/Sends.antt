-- A job and its answer may go to another thread, where the file may.
-- A type that holds a format, or much else, is past the limits of one `search`. So each such type has a lemma here, from those of its parts.
use denote.RattleType.{RattleType}
use denote.Param.Send.{IsSend, IsSync, view_send, view_sync, sendable}
use denote.Param.SendFields.{as_row_send, as_row_sync, declared_send, declared_sync, variants_send}
use Rattle.std.proofs.Crossing.{crosses}
use Rattle.std.specs.contracts.option.Option as Option
use Rattle.fj_value.specs.contracts.edit.EditModes as EditModes
use Rattle.fj_value.specs.contracts.items.Items as Items
use Rattle.fj_value.specs.contracts.text.Text as Text
use Rattle.fj_value.specs.contracts.value.Cell as Cell
use Rattle.fj_value.specs.contracts.value.Value as Value
use Rattle.fj_outside.specs.contracts.buffered.Buffered as Buffered
use Rattle.fj_outside.specs.declared.outside.FileStore as files
use Rattle.fj_modes.specs.contracts.file_name.FileName as FileName
use Rattle.fj_modes.specs.contracts.modes.Modes as Modes
use Rattle.fj_format.proofs.item.FormatItem.TheLaws.TheKnot as knot
use Rattle.fj_format.specs.contracts.format.Format as Format
use Rattle.fj_format.specs.contracts.format.Format.TheInside as FormatInside
use Rattle.fj_format.specs.contracts.item.FormatItem as FormatItem
use Rattle.fj_moved.specs.declared.elements.Element as element
use Rattle.fj_moved.specs.contracts.elements.Elements as Elements
use Rattle.fj_moved.specs.contracts.elements.Elements.TheInside as ElementsInside
use Rattle.fj_moved.specs.contracts.elements.Kept as Kept
use Rattle.fj_moved.specs.contracts.elements.Owned as Owned
use Rattle.fj_moved.specs.contracts.elements.Owned.TheInside as OwnedInside
use Rattle.fj_moved.specs.contracts.load.Load as Load
use Rattle.fj_moved.specs.contracts.load.Load.TheInside as LoadInside
use Rattle.fj_moved.specs.contracts.load.Shape as Shape
use Rattle.fj_moved.specs.contracts.moved.GroupMember as GroupMember
use Rattle.fj_moved.specs.contracts.moved.Moved as Moved
use Rattle.fj_moved.specs.contracts.moved.Row as Row
use Rattle.fj_transfer.specs.contracts.change.EditChange as EditChange
use Rattle.fj_transfer.specs.contracts.transfer.Layout as Layout
use Rattle.fj_transfer.specs.contracts.transfer.Transfer as Transfer
use Rattle.fj_transfer.specs.contracts.transfer.TransferSpec as Spec
use Rattle.fj_connect.specs.contracts.connection.Connection as Connection
use Rattle.fj_connect.specs.contracts.connection.Connection.TheInside as Inside
use Rattle.fj_connect.specs.contracts.connection.Looked as Looked
use Rattle.fj_connect.specs.contracts.spot.Look as Look
use Rattle.fj_connect.specs.contracts.spot.Spot as Spot
use Rattle.fj_value.specs.contracts.boxed.Boxed as Boxed
use Rattle.fj_bay.specs.contracts.job.Answer as Answer
use Rattle.fj_bay.specs.contracts.job.Job as Job

-- ---- values and names
pub text_sends : IsSend Text.the_row
text_sends = search (crosses, sendable) depth 20

pub items_sends : (T : RattleType) → IsSend T → IsSend (Items.the_row T)
items_sends T s = search (crosses, sendable) depth 20

items_sync : (T : RattleType) → IsSync T → IsSync (Items.the_row T)
items_sync T s = search (crosses, sendable) depth 20

boxed_sends : (T : RattleType) → IsSend T → IsSend (Boxed.the_row T)
boxed_sends T s = search (crosses, sendable) depth 20

pub value_sends : IsSend Value.the_row
value_sends = search (crosses, sendable) depth 20

pub value_sync : IsSync Value.the_row
value_sync = search (crosses, sendable) depth 20

cell_sends : IsSend Cell.the_row
cell_sends = declared_send Cell.the_type (search (as_row_send, value_sends, crosses, sendable) depth 20)

pub file_name_sends : IsSend FileName.the_row
file_name_sends = search (crosses, sendable) depth 20

edit_modes_sends : IsSend EditModes.the_row
edit_modes_sends = declared_send EditModes.the_type (search (as_row_send, crosses, sendable) depth 20)

pub modes_sends : IsSend Modes.the_row
modes_sends = declared_send Modes.the_type (search (as_row_send, edit_modes_sends, crosses, sendable) depth 20)

-- ---- formats
format_item_sends : IsSend FormatItem.the_row
format_item_sends = search (crosses, knot.crosses, sendable) depth 60 fits 20000

format_item_sync : IsSync FormatItem.the_row
format_item_sync = search (crosses, knot.crosses, sendable) depth 60 fits 20000

inside_format_sends : IsSend FormatInside.the_row
inside_format_sends = declared_send FormatInside.the_type (search (as_row_send, crosses, format_item_sends, format_item_sync, items_sends, items_sync, sendable) depth 20)

-- its clones share its items
pub format_sends : IsSend Format.the_row
format_sends = view_send _ _ _ _ _ inside_format_sends

-- ---- what a job moves
group_member_sends : IsSend GroupMember.the_row
group_member_sends = declared_send GroupMember.the_type (search (as_row_send, text_sends, crosses, sendable) depth 20)

moved_sends : IsSend Moved.the_row
moved_sends = declared_send Moved.the_type (search (as_row_send, cell_sends, items_sends, crosses, sendable) depth 20)

inside_owned_sends : (T : RattleType) (g : element.Ghosts T.Denot) → IsSend T → IsSend (OwnedInside.the_row T g)
inside_owned_sends T g s = declared_send (OwnedInside.the_type T g) (search (as_row_send, items_sends, crosses, sendable) depth 20)

owned_sends : (T : RattleType) (g : element.Ghosts T.Denot) → IsSend T → IsSend (Owned.the_row T g)
owned_sends T g s = view_send _ _ _ _ _ (inside_owned_sends T g s)

inside_owned_sync : (T : RattleType) (g : element.Ghosts T.Denot) → IsSync T → IsSync (OwnedInside.the_row T g)
inside_owned_sync T g y = declared_sync (OwnedInside.the_type T g) (search (as_row_sync, items_sync, crosses, sendable) depth 20)

owned_sync : (T : RattleType) (g : element.Ghosts T.Denot) → IsSync T → IsSync (Owned.the_row T g)
owned_sync T g y = view_sync _ _ _ _ _ (inside_owned_sync T g y)

-- elements that are shared are looked at by two threads
kept_sends : (T : RattleType) (g : element.Ghosts T.Denot) → IsSend T → IsSync T → IsSend (Kept.the_row T g)
kept_sends T g s y = variants_send (Kept.enum T g) (search (as_row_send, owned_sends, owned_sync, crosses, sendable) depth 20)

inside_elements_sends : (T : RattleType) (g : element.Ghosts T.Denot) → IsSend T → IsSync T → IsSend (ElementsInside.the_row T g)
inside_elements_sends T g s y = declared_send (ElementsInside.the_type T g) (search (as_row_send, kept_sends, crosses, sendable) depth 20)

pub elements_sends : (T : RattleType) (g : element.Ghosts T.Denot) → IsSend T → IsSync T → IsSend (Elements.the_row T g)
elements_sends T g s y = view_send _ _ _ _ _ (inside_elements_sends T g s y)

row_sends : IsSend Row.the_row
row_sends = declared_send Row.the_type (search (as_row_send, value_sends, value_sync, elements_sends, crosses, sendable) depth 20)

shape_sends : IsSend Shape.the_row
shape_sends = variants_send Shape.enum (search (moved_sends, row_sends, crosses, sendable) depth 20)

inside_load_sends : IsSend LoadInside.the_row
inside_load_sends = declared_send LoadInside.the_type (search (shape_sends, crosses, sendable) depth 20)

pub load_sends : IsSend Load.the_row
load_sends = view_send _ _ _ _ _ inside_load_sends

layout_sends : IsSend Layout.the_row
layout_sends = variants_send Layout.enum (search (as_row_send, format_sends, text_sends, group_member_sends, items_sends, crosses, sendable) depth 20)

edit_change_sends : IsSend EditChange.the_row
edit_change_sends = declared_send EditChange.the_type (search (as_row_send, crosses, sendable) depth 20)

spec_sends : IsSend Spec.the_row
spec_sends = declared_send Spec.the_type (search (as_row_send, layout_sends, edit_change_sends, crosses, sendable) depth 20)

pub transfer_sends : IsSend Transfer.the_row
transfer_sends = declared_send Transfer.the_type (search (as_row_send, spec_sends, load_sends, moved_sends, crosses, sendable) depth 20)

-- ---- answers
pub answer_sends : IsSend Answer.the_row
answer_sends = variants_send Answer.enum (search (as_row_send, crosses, sendable) depth 20)

spot_sends : IsSend Spot.the_row
spot_sends = declared_send Spot.the_type (search (as_row_send, crosses, sendable) depth 20)

look_sends : IsSend Look.the_row
look_sends = declared_send Look.the_type (search (as_row_send, spot_sends, crosses, sendable) depth 20)

looks_send : IsSend (Option.the_row Look.the_row)
looks_send = search (look_sends, crosses, sendable) depth 20

looked_sends : IsSend (Option.the_row Looked.the_row)
looked_sends = search (crosses, sendable) depth 20

-- ---- over files
module _ (F : RattleType) (g : files.Ghosts F.Denot) (s : IsSend F) where
  buffered_sends : IsSend (Buffered.the_row F g)
  buffered_sends = search (crosses, sendable) depth 20

  inside_sends : IsSend (Inside.the_row F g)
  inside_sends = declared_send (Inside.the_type F g) (search (as_row_send, buffered_sends, modes_sends, file_name_sends, spot_sends, text_sends, looked_sends, crosses, sendable) depth 20)

  pub connection_sends : IsSend (Connection.the_row F g)
  connection_sends = view_send _ _ _ _ _ inside_sends

  connections_send : IsSend (Option.the_row (Connection.the_row F g))
  connections_send = search (connection_sends, crosses, sendable) depth 12

  -- its variants by hand, since they are many and most have parts
  pub job_sends : IsSend (Job.the_row F g)
  job_sends = variants_send (Job.enum F g) (
    (search (as_row_send, boxed_sends, connections_send, sendable) depth 12, tt),
    (
      (search (as_row_send, boxed_sends, connections_send, sendable) depth 12, tt),
      ((search (as_row_send, boxed_sends, transfer_sends, sendable) depth 12, tt), ((search sendable depth 20, tt), ((edit_modes_sends, tt), (tt, ((search (as_row_send, boxed_sends, looks_send, sendable) depth 12, tt), (tt, tt)))))),
    ),
  )
