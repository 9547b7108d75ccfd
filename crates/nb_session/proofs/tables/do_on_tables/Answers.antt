use Rattle.std.proofs.Common.{refl, ap, ◌∙◌, Ok, Err}
use Rattle.nb_model.specs.declared.statement.Statement.TheVariants.{Get, Scan}
use Rattle.nb_session.proofs.Common.{Value, Rows, first_turn, done, valued}
use Rattle.nb_model.specs.Tables.{insert_turn, update_turn}
use Rattle.nb_session.proofs.ActLaws.{does_replied, replied_err, tells_replied, tells_unsaid}
use Rattle.nb_session.proofs.ShortLaws.{read_strokes, stops_lack, wanted_map}
use Rattle.nb_session.proofs.TurnLaws.{seen_now}
use Rattle.nb_session.proofs.tables.do_on_tables.Goals as goal

pub returns-in-CreateTable-clause-turn : goal.returns-in-CreateTable-clause-turn
unfolding first_turn
returns-in-CreateTable-clause-turn g c now t session tells ready =
    does_replied done c.create.result c.done.result c.done.ensures.reply _ _ _ _ t now session c.args.statement.now _ c.in-CreateTable.is refl refl refl _ refl ready (wanted_map c.create.result (stops_lack _ _ _ _ t _) (c.create.ensures.on_memory (seen_now now) t tells ready.base ready.opened))
    (c.create.ensures.turn (seen_now now) t tells ready.base ready.opened)

pub returns-in-DropTable-clause-turn : goal.returns-in-DropTable-clause-turn
unfolding first_turn
returns-in-DropTable-clause-turn g c now t session tells ready =
    does_replied done c.drop_table.result c.done-in-DropTable.result c.done-in-DropTable.ensures.reply _ _ _ _ t now session c.args.statement.now _ c.in-DropTable.is refl refl refl _ refl ready (wanted_map c.drop_table.result (stops_lack _ _ _ _ t _) (c.drop_table.ensures.on_memory (seen_now now) t tells ready.base ready.opened))
    (c.drop_table.ensures.turn (seen_now now) t tells ready.base ready.opened)

pub returns-in-Insert-clause-turn : goal.returns-in-Insert-clause-turn
unfolding first_turn
returns-in-Insert-clause-turn g c now t session tells ready =
    does_replied done c.insert.result c.done-in-Insert.result c.done-in-Insert.ensures.reply _ _ _ _ t now session c.args.statement.now _ c.in-Insert.is refl refl refl _ (ap (λ text. insert_turn (seen_now now) c.in-Insert.table c.in-Insert.key text) c.as_slice-text.ensures) ready (wanted_map c.insert.result (stops_lack _ _ _ _ t _) (c.insert.ensures.on_memory (seen_now now) t tells ready.base ready.opened))
    (c.insert.ensures.turn (seen_now now) t tells ready.base ready.opened)

pub returns-in-Update-clause-turn : goal.returns-in-Update-clause-turn
unfolding first_turn
returns-in-Update-clause-turn g c now t session tells ready =
    does_replied done c.update.result c.done-in-Update.result c.done-in-Update.ensures.reply _ _ _ _ t now session c.args.statement.now _ c.in-Update.is refl refl refl _ (ap (λ text. update_turn (seen_now now) c.in-Update.table c.in-Update.key text) c.as_slice-text-in-Update.ensures) ready (wanted_map c.update.result (stops_lack _ _ _ _ t _) (c.update.ensures.on_memory (seen_now now) t tells ready.base ready.opened))
    (c.update.ensures.turn (seen_now now) t tells ready.base ready.opened)

pub returns-in-Delete-clause-turn : goal.returns-in-Delete-clause-turn
unfolding first_turn
returns-in-Delete-clause-turn g c now t session tells ready =
    does_replied done c.delete.result c.done-in-Delete.result c.done-in-Delete.ensures.reply _ _ _ _ t now session c.args.statement.now _ c.in-Delete.is refl refl refl _ refl ready (wanted_map c.delete.result (stops_lack _ _ _ _ t _) (c.delete.ensures.on_memory (seen_now now) t tells ready.base ready.opened))
    (c.delete.ensures.turn (seen_now now) t tells ready.base ready.opened)

pub returns-in_err-text-in-Get-clause-turn : goal.returns-in_err-text-in-Get-clause-turn
unfolding first_turn
returns-in_err-text-in-Get-clause-turn g c now t session tells ready =
    tells_replied valued (Err c.in_err-text-in-Get.field-0.0) c.from_residual.result (replied_err valued _ c.from_residual.result c.from_residual.ensures) _ _ _ _ t now session c.args.statement.now _ c.in-Get.is refl refl refl _ refl (read_strokes (Get c.in-Get.table c.in-Get.key) refl (seen_now now) session) ready
    (c.in_err-text-in-Get.ensures.turn (seen_now now) t tells ready.base ready.opened)

pub returns-in_err-new-in-Get-clause-turn : goal.returns-in_err-new-in-Get-clause-turn
unfolding first_turn
returns-in_err-new-in-Get-clause-turn g c now t session tells ready =
    tells_unsaid valued c.in_ok-text-in-Get.text _ c.from_residual-in_err-new-in-Get.result c.in_err-new-in-Get.ensures.only_memory c.from_residual-in_err-new-in-Get.ensures _ _ _ _ t now session c.args.statement.now _ c.in-Get.is refl refl refl _ refl (read_strokes (Get c.in-Get.table c.in-Get.key) refl (seen_now now) session) ready
    (c.in_ok-text-in-Get.ensures.turn (seen_now now) t tells ready.base ready.opened)

pub returns-in_ok-new-in-Get-clause-turn : goal.returns-in_ok-new-in-Get-clause-turn
unfolding first_turn
returns-in_ok-new-in-Get-clause-turn g c now t session tells ready =
    does_replied valued (Ok c.in_ok-text-in-Get.text) (Ok (Value c.in_ok-new-in-Get.field-0)) (ap Value (c.in_ok-new-in-Get.ensures.ok ∙ c.as_slice.ensures.value)) _ _ _ _ t now session c.args.statement.now _ c.in-Get.is refl refl refl _ refl ready tt
    (c.in_ok-text-in-Get.ensures.turn (seen_now now) t tells ready.base ready.opened)

pub returns-in_err-rows-in-Scan-clause-turn : goal.returns-in_err-rows-in-Scan-clause-turn
unfolding first_turn
returns-in_err-rows-in-Scan-clause-turn g c now t session tells ready =
    tells_replied Rows (Err c.in_err-rows-in-Scan.field-0.0) c.from_residual-in_err-rows-in-Scan.result (replied_err Rows _ c.from_residual-in_err-rows-in-Scan.result c.from_residual-in_err-rows-in-Scan.ensures) _ _ _ _ t now session c.args.statement.now _ c.in-Scan.is refl refl refl _ refl (read_strokes (Scan c.in-Scan.table) refl (seen_now now) session) ready
    (c.in_err-rows-in-Scan.ensures.turn (seen_now now) t tells ready.base ready.opened)

pub returns-in_ok-rows-in-Scan-clause-turn : goal.returns-in_ok-rows-in-Scan-clause-turn
unfolding first_turn
returns-in_ok-rows-in-Scan-clause-turn g c now t session tells ready =
    does_replied Rows (Ok c.in_ok-rows-in-Scan.rows) (Ok (Rows c.in_ok-rows-in-Scan.rows)) refl _ _ _ _ t now session c.args.statement.now _ c.in-Scan.is refl refl refl _ refl ready tt
    (c.in_ok-rows-in-Scan.ensures.turn (seen_now now) t tells ready.base ready.opened)
