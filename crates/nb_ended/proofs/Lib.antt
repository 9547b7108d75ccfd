mod ShownLaws
